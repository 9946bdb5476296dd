-- A list of entries as its five columns, the lent list tables of document 01, "Expansion", and of document 02, W10: conditions, second masks, jobs,
-- parents, depths. The column of second masks may be short: past its end nothing is to be absent.
-- Definitions only.
use Rattle.std.specs.Prelude.{Bool, true, false, List, ℕ, get_or}
pub use Rattle.base.specs.Lists.{prefix}
use Rattle.conditions.specs.declared.Condition.{Condition}
use Rattle.conditions.specs.Condition.{condition_at}
use Rattle.planning.specs.Expansion.{Entry}

-- the most entries of a list: "at most 4,096"; document 02, W10: "its capacity and W4's list are at most 2,978", so that the tree of a paired one is no
-- longer than a tree may be
abbrev pub max_entries : (paired : Bool) → ℕ
max_entries false = 4096
max_entries true = 2978

module _ (conditions absences actions parents depths : List ℕ) where
  abbrev pub entry_at : ℕ → Entry Condition
  entry_at i = record { condition = condition_at conditions absences i; action = get_or actions i 0; parent = get_or parents i 0; depth = get_or depths i 0 }

  -- the first n entries that the columns hold
  abbrev pub entries_of : ℕ → List (Entry Condition)
  entries_of n = prefix entry_at n
