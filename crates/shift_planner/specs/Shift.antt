-- The plan for the whole shift, from a table alone, and what it promises: document 02, W2.
-- Definitions only; ShiftLaws.antt shows that every such plan keeps it.
use Rattle.std.specs.Prelude.{ℕ, ◌≡◌, Bool, List, ◌↔◌, length, Result}
use Rattle.refusal.specs.declared.Refusal.{Refusal}
use Rattle.refusal.specs.Checked.{accepted, refused, answer_of}
use Rattle.table.specs.Table.{Table}
use Rattle.table.specs.Read.{read_table}
use Rattle.planning.specs.Sequence.{Reaches}
use Rattle.planning.specs.Demand.{CoveredBy}
use Rattle.expander.specs.declared.Until.TheVariants.{Never}
use Rattle.expander.specs.Expands.{Columns, room}
use Rattle.builder.specs.declared.Size.{Size}
use Rattle.builder.specs.Plan.{table_domain, pairs, Plan, table_plan, after_checks, size_of, WritesPlan}
use Rattle.builder.specs.Works.{FewestJobs, Irredundant, NoRoom}

-- "This plan takes no start and stops only when all entries are expanded or number 10 arises."
unfoldable pub plan_shift : List ℕ → (Bool → ℕ) → ℕ → Plan Size
plan_shift table capacity room = after_checks (read_table table) λ t. table_plan Never t capacity room (size_of (pairs t))

-- Of the table t that was read from the bytes, and the plan P with room for so many entries, by whether the list is paired, and so many bytes of a tree:
pub record Serves (t : Table) (table : List ℕ) (capacity : Bool → ℕ) (room : ℕ) (P : Plan Size) : Type 0 where
  -- "the fewest-jobs property holds for such trees also"
  pub works : (p : Size) → P.answer ≡ accepted p → FewestJobs t table P.list P.tree
  -- "A state then meets some condition of the tree exactly when a sequence of jobs leads from it to the goal."
  pub covers : (p : Size) → P.answer ≡ accepted p → (s : ℕ) → CoveredBy (table_domain t) P.list s ↔ ((w : List ℕ) × Reaches (table_domain t) s w)
  -- "Number 11 does not arise here": a plan that is refused is one for which there is no room
  pub stops : (n p : ℕ) → P.answer ≡ refused n p → NoRoom (pairs t) (capacity (pairs t)) room P.list n p
  -- no line is dead, for tables without 0x21
  pub irredundant : Irredundant t P.list

-- What the entry point gives.
pub record PlansShift (table : List ℕ) (before after : Columns) (lent tree : List ℕ) (r : (Result Size Refusal)) : Type 0 where
  pub writes : WritesPlan (plan_shift table (room before) (length lent)) before after lent tree (answer_of r)
  pub serves : (t : Table) → read_table table ≡ accepted t
      → Serves t table (room before) (length lent) (plan_shift table (room before) (length lent))
