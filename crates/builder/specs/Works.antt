-- What a list and its tree promise of the work on a vehicle, whatever plan made them: demand 3, and what every tick on the tree keeps.
-- Definitions only; WorksLaws.antt shows that every plan's do.
use Rattle.std.specs.Prelude.{ℕ, ◌<◌, ◌≡◌, Bool, true, false, List, ◌↔◌, ◌⊎◌, T, length}
use Rattle.masks.specs.Sets.{within}
use Rattle.refusal.specs.Checked.{accepted}
use Rattle.reading.specs.declared.Reading.{Reading}
use Rattle.reading.specs.Reading.{sound, Completes, state}
use Rattle.conditions.specs.declared.Condition.{Condition}
use Rattle.conditions.specs.Condition.{needed}
use Rattle.conditions.specs.OnReading.{Confirmed}
use Rattle.job.specs.Job.{action_of}
use Rattle.table.specs.Table.{Table}
use Rattle.tree.specs.declared.Status.TheVariants.{Failure, Running, Unsettled}
use Rattle.tree.specs.Tick.{Verdict}
use Rattle.tree.specs.TickBytes.{tick_bytes, answered}
use Rattle.planning.specs.Expansion.{Entry}
use Rattle.planning.specs.Demand.{CoveredBy, FirstIn, Fewest}
use Rattle.flat.specs.TreeBytes.{tree_bytes}
use Rattle.runs.specs.Runs.{tick_on}
use Rattle.builder.specs.Plan.{job_of, table_domain, pairs}

-- ---- one tick, on the tree of a list, at a reading that is sound

pub record Ticks (t : Table) (table tree : List ℕ) (r : Reading) : Type 0 where
  -- no tick is refused
  pub answer : Verdict
  pub is_answer : tick_bytes table tree r ≡ accepted answer
  -- a job is handed out only where all that it needs is read and held, and all that it needs absent read and absent
  pub needs_held : (job : ℕ) → answer.answer ≡ Running job → (job < length t.jobs) × Confirmed r (needed (action_of (job_of t job)))
  -- it stops as unsettled only where two ways of filling in the unread facts differ, in the answer or in the leaf that decides
  pub unsettled : (m : ℕ) → answer.answer ≡ Unsettled m
      → (s u : ℕ) × Completes r s × Completes r u × (tick_bytes table tree (state s) ≡ tick_bytes table tree (state u) → ⊥)

-- ---- a list and its tree; `Best` is what the kind of plan claims of a covered state

pub record Works (Best : ℕ → Type 0) (t : Table) (table : List ℕ) (list : List (Entry Condition)) (tree : List ℕ) : Type 0 where
  pub best : (s : ℕ) → T (within t.facts s) → CoveredBy (table_domain t) list s → Best s
  -- where all facts are read, the tree fails exactly where no listed condition is met
  pub fails : (s : ℕ) → T (within t.facts s)
      → (answered (tick_bytes table tree (state s)) ≡ accepted Failure) ↔ (CoveredBy (table_domain t) list s → ⊥)
  pub ticks : (r : Reading) → sound t.facts r ≡ true → Ticks t table tree r

-- Demand 3 for the fewest jobs: from every covered state the run of ticks ends with Success at the goal, after as many jobs as the depth of the
-- first entry that the state meets; no tick is refused, each job is applicable; and no sequence that reaches the goal has fewer jobs.
abbrev pub FewestJobs : Table → List ℕ → List (Entry Condition) → List ℕ → Type 0
FewestJobs t table list tree = Works (Fewest (table_domain t) (tick_on table tree) list) t table list tree

-- document 02, W2: "each entry must be the first one met in at least one state". An entry that is not is a dead line there; W10: "absence of dead lines
-- .. for tables without 0x21".
abbrev pub Irredundant : Table → List (Entry Condition) → Type 0
Irredundant t list = pairs t ≡ false → (i : ℕ) → i < length list → (s : ℕ) × T (within t.facts s) × FirstIn (table_domain t) list s i

-- The stops that any plan may meet once the checks are passed: 10 where as many entries as the capacity are stored, 12 where the lent tree has
-- less room than the list's tree needs.
abbrev pub NoRoom : Bool → ℕ → ℕ → List (Entry Condition) → ℕ → ℕ → Type 0
NoRoom paired capacity room list number place =
    ((number ≡ 10) × (place ≡ capacity)) ⊎ ((number ≡ 12) × (place ≡ length list) × (room < length (tree_bytes paired list)))
