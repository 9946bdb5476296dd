-- The nearest minute of a number of seconds, in the papers' words: what `nearest` is shown to be.
-- Definitions only.
use Rattle.std.specs.Prelude.{◌≡◌, ℕ, ◌+◌, ◌*◌, ◌%◌, ◌≤◌}

-- "the nearest minute with an exact half going to the even one": at most half a minute above the seconds or below them, and even where they
-- are an exact half; one number is that
pub record Nearest (n minutes : ℕ) : Type 0 where
  pub above : minutes * 60 ≤ n + 30
  pub below : n ≤ minutes * 60 + 30
  pub even : n % 60 ≡ 30 → minutes % 2 ≡ 0
