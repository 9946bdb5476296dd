-- What the parts of a recovery give.
-- Definitions only.
use Rattle.std.specs.Prelude.{ℕ, ◌≤◌, Bool, length, get_or, if◌then◌else◌}
use Rattle.base.specs.Lists.{overlay}
use Rattle.refusal.specs.Checked.{Checked, accepted, refused}
use Rattle.expander.specs.Expands.{Columns, columns}
use Rattle.builder.specs.declared.Size.{Size}

-- as many bytes as are told to be written
abbrev pub bytes_of : Checked Size → ℕ
bytes_of (accepted size) = size.bytes
bytes_of (refused number place) = 0

-- of n entries that are planned or not, in tables that are full before or not: 20, then 10
abbrev pub judged_for : (planned full : Bool) → ℕ → Checked ℕ
judged_for planned full n = if planned then (if full then refused 10 0 else accepted n) else refused 20 0

-- as many entries as are told
abbrev pub told_of : Checked ℕ → ℕ
told_of (accepted n) = n
told_of (refused number place) = 0

-- the first n entries of some tables, written over those of others
abbrev pub copied : (n : ℕ) (from to : Columns) → Columns
copied n from to =
    columns (overlay (λ i. get_or from.conditions i 0) n to.conditions) to.absences (overlay (λ i. get_or from.actions i 0) n to.actions)
    (overlay (λ i. get_or from.parents i 0) n to.parents) (overlay (λ i. get_or from.depths i 0) n to.depths)

-- the tables have n entries
pub record Holds (n : ℕ) (t : Columns) : Type 0 where
  pub in_conditions : n ≤ length t.conditions
  pub in_actions : n ≤ length t.actions
  pub in_parents : n ≤ length t.parents
  pub in_depths : n ≤ length t.depths
