-- What the plan for a start promises: demand 3.
-- Definitions only; PromiseLaws.antt shows that every plan keeps it.
use Rattle.std.specs.Prelude.{ℕ, suc, ◌-◌, ◌≡◌, Bool, true, List, ◌⊎◌, length, Result}
use Rattle.refusal.specs.declared.Refusal.{Refusal}
use Rattle.refusal.specs.Checked.{accepted, refused, answer_of}
use Rattle.reading.specs.declared.Reading.{Reading}
use Rattle.reading.specs.Reading.{sound}
use Rattle.table.specs.Table.{Table}
use Rattle.table.specs.Read.{read_table}
use Rattle.planning.specs.Sequence.{Reaches}
use Rattle.planning.specs.Listing.{path}
use Rattle.planning.specs.Expansion.{listing}
use Rattle.planning.specs.Demand.{FirstIn}
use Rattle.expander.specs.Expands.{Columns, room}
use Rattle.runs.specs.Runs.{tick_on}
use Rattle.builder.specs.Plan.{table_domain, pairs, Plan, WritesPlan}
use Rattle.builder.specs.Works.{FewestJobs, Irredundant, NoRoom}
use Rattle.planner.specs.declared.Summary.{Summary}
use Rattle.planner.specs.Plan.{way_of, plan_for}

-- Of the table t that was read from the bytes, a start, and the plan P with room for so many entries, by whether the list is paired, and so many bytes
-- of a tree:
pub record Keeps (t : Table) (table : List ℕ) (start : Reading) (capacity : Bool → ℕ) (room : ℕ) (P : Plan Summary) : Type 0 where
  -- from every covered state the run of ticks takes the fewest jobs, and ticks with unread facts keep their promises
  pub works : (p : Summary) → P.answer ≡ accepted p → FewestJobs t table P.list P.tree
  -- "A plan succeeds wherever the papers give it no stop": for a start that is sound and fully read, a plan that is refused is one for which there
  -- is no way, or no room
  pub stops : sound t.facts start ≡ true → start.unread ≡ 0 → (n p : ℕ) → P.answer ≡ refused n p
      → ((n ≡ 11) × (p ≡ length P.list)) ⊎ NoRoom (pairs t) (capacity (pairs t)) room P.list n p
  -- "No way" means that no sequence of any length leads from the start to the goal
  pub no_way : (p : ℕ) → P.answer ≡ refused 11 p → (w : List ℕ) → Reaches (table_domain t) start.held w → ⊥
  -- the start is covered, and the last entry is the first that it meets
  pub start_covered : (p : Summary) → P.answer ≡ accepted p → (i : ℕ) × (p.entries ≡ suc i) × FirstIn (table_domain t) P.list start.held i
  -- document 02, W5, "this changes nothing printed": the way is that "from the covering entry along parents to entry 0" of document 01
  pub way : (p : Summary) → P.answer ≡ accepted p
      → way_of (tick_on table) t start.held P.list ≡ path (listing (table_domain t) P.list) (p.entries - 1)
  -- no line is dead, in every list that is stored, also where 10, 11 or 12 is the answer, for tables without 0x21
  pub irredundant : Irredundant t P.list

-- What the planner's entry point gives: the plan of the definition in every lent slice, and the promises about it.
pub record Plans (table : List ℕ) (start : Reading) (before after : Columns) (lent tree : List ℕ) (r : (Result Summary Refusal)) : Type 0 where
  pub writes : WritesPlan (plan_for table start (room before) (length lent)) before after lent tree (answer_of r)
  pub keeps : (t : Table) → read_table table ≡ accepted t
      → Keeps t table start (room before) (length lent) (plan_for table start (room before) (length lent))
