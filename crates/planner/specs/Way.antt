-- The way along the parents, where a list is held as its columns of actions, parents and depths, and the listed seconds as a row.
-- Definitions only.
use Rattle.std.specs.Prelude.{ℕ, zero, suc, ◌+◌, ◌-◌, ◌≤◌, ◌<◌, ◌≡◌, List, [], ◌∷◌, length, get_or}
use Rattle.job.specs.Validation.{max_seconds}
use Rattle.planning.specs.Listing.{Listing, path}

-- the list that the columns hold, as far as a way asks
abbrev pub linked : List ℕ → List ℕ → Listing (Unit {0}) ℕ
linked actions parents = record { condition = λ i. tt; action = λ i. get_or actions i 0; parent = λ i. get_or parents i 0; cost = λ i. 0 }

-- the first n entries of the columns: each one's action is below the count of actions, and its parent is an earlier entry
pub record Linked (count n : ℕ) (actions parents : List ℕ) : Type 0 where
  pub few : n ≤ 4096
  pub actions_held : n ≤ length actions
  pub parents_held : n ≤ length parents
  pub known : (i : ℕ) → suc i < n → get_or actions (suc i) 0 < count
  pub earlier : (i : ℕ) → suc i < n → get_or parents (suc i) 0 < suc i

-- a list of n entries stands in the columns, and its last entry's depth is the length of its way
pub record Traced (count n : ℕ) (actions parents depths : List ℕ) : Type 0 where
  pub some : 1 ≤ n
  pub depths_held : n ≤ length depths
  pub links : Linked count n actions parents
  pub last_depth : get_or depths (n - 1) 0 ≡ length (path (linked actions parents) (n - 1))

-- the seconds of a way, by a row of the jobs' seconds
abbrev pub row_seconds : List ℕ → List ℕ → ℕ
row_seconds row [] = zero
row_seconds row (a ∷ w) = get_or row a 0 + row_seconds row w

-- no job is listed with more seconds than a job may be
abbrev pub InTime : List ℕ → Type 0
InTime row = (i : ℕ) → get_or row i 0 ≤ max_seconds
