-- The distances of all states of a table, and what stands in the lent row: document 02, W13.
-- Definitions only; MeasureLaws.antt and AgreeLaws.antt have the laws.
use Rattle.std.specs.Prelude.{ℕ, ◌<◌, ◌^◌, ◌≡◌, Bool, List, ◌↔◌, leb, eqb, length, get_or, if◌then◌else◌, Err, Ok, Result}
use Rattle.refusal.specs.Checked.{Checked, accepted, refused, refused_by, and_then}
use Rattle.conditions.specs.declared.Condition.{Condition}
use Rattle.table.specs.Table.{Table}
use Rattle.table.specs.Read.{read_table}
use Rattle.planning.specs.Domain.{Domain}
use Rattle.planning.specs.Expansion.{Entry, entry_in}
use Rattle.planning.specs.Demand.{FirstIn, CoveredBy}
use Rattle.builder.specs.declared.Size.{Size}
use Rattle.builder.specs.Plan.{table_domain}
use Rattle.shift_planner.specs.Shift.{plan_shift}
use Rattle.distance_steps.specs.Distance.{no_distance, Distance}

-- ---- the answer

-- "for tables of at most 15 facts"
abbrev pub most_facts : ℕ
most_facts = 15

-- "More than 15 facts is refused as 25, a row of another length than the states as 26, in that order after 7." A state is a held mask without a bit at
-- or above F, so that there are 2 ^ F of them.
unfoldable pub checked_row : (facts size : ℕ) → Checked ℕ
checked_row facts size = if leb facts most_facts then (if eqb size (2 ^ facts) then accepted (2 ^ facts) else refused 26 0) else refused 25 0

-- how many states have their distance in a row of this size
abbrev pub measured : List ℕ → ℕ → Checked ℕ
measured table size = and_then (read_table table) λ t. checked_row t.facts size

-- ---- the row

-- "Where a whole-shift tree is built the two must agree": the number n of the state s with the list l of that tree
pub record Agrees (D : Domain ℕ Condition ℕ) (l : List (Entry Condition)) (s n : ℕ) : Type 0 where
  -- "equal to the depth of the first entry met"
  pub first_depth_is : (i : ℕ) → FirstIn D l s i → n ≡ (entry_in D l i).depth
  -- "and 65,535 exactly where none is met"
  pub none_met : (n ≡ no_distance) ↔ (CoveredBy D l s → ⊥)

-- Of the table t that was read, and its n states with their numbers in the row:
pub record HoldsDistances (t : Table) (table : List ℕ) (n : ℕ) (row : List ℕ) : Type 0 where
  -- "for each state the fewest jobs to the goal, or 65,535 for none"
  pub distances : (s : ℕ) → s < n → Distance (table_domain t) s (get_or row s 0)
  -- whatever is lent to the plan for the whole shift
  pub agrees : (capacity : Bool → ℕ) (room : ℕ) (p : Size) → (plan_shift table capacity room).answer ≡ accepted p
      → (s : ℕ) → s < n → Agrees (table_domain t) (plan_shift table capacity room).list s (get_or row s 0)

-- What the entry point gives.
pub record Measures (table before after : List ℕ) (told : Checked ℕ) : Type 0 where
  pub answer : told ≡ measured table (length before)
  pub sized : length after ≡ length before
  pub holds : (t : Table) → read_table table ≡ accepted t → (n : ℕ) → measured table (length before) ≡ accepted n → HoldsDistances t table n after
  -- "Every other refused call .. writes to nothing that is lent"
  pub untouched : (number place : ℕ) → measured table (length before) ≡ refused number place → after ≡ before
