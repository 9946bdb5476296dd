-- Numbers in bytes, least byte first: document 01, "Masks are unsigned 64-bit, least byte first" and "Two-byte numbers have the least byte first".
-- One definition for every width.
-- Definitions only.
use Rattle.std.specs.Prelude.{ℕ, zero, suc, ◌+◌, ◌*◌, ◌/◌, ◌%◌, ◌<◌, List, [], ◌∷◌, take, drop, get_or}

-- a list of bytes
abbrev pub AreBytes : List ℕ → Type 0
AreBytes s = (i : ℕ) → get_or s i 0 < 256

-- the number that bytes hold
unfoldable pub from_bytes : List ℕ → ℕ
from_bytes [] = 0
from_bytes (b ∷ bs) = b + 256 * from_bytes bs

-- the lowest n bytes of a number
unfoldable pub to_bytes : ℕ → ℕ → List ℕ
to_bytes zero v = []
to_bytes (suc n) v = v % 256 ∷ to_bytes n (v / 256)

-- the number in the n bytes from an offset on
unfoldable pub number_at : ℕ → List ℕ → ℕ → ℕ
number_at n s at = from_bytes (take n (drop at s))
