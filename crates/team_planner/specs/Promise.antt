-- What the plan for two fitters promises: document 02, W12, and demand 3 for both together.
-- Definitions only; PromiseLaws.antt shows that every plan keeps it.
use Rattle.std.specs.Prelude.{ℕ, suc, ◌<◌, ◌≡◌, Bool, true, List, ◌⊎◌, T, length, get_or, Result}
use Rattle.masks.specs.Sets.{within}
use Rattle.refusal.specs.declared.Refusal.{Refusal}
use Rattle.refusal.specs.Checked.{Checked, accepted, refused, and_then, answer_of}
use Rattle.reading.specs.declared.Reading.{Reading}
use Rattle.reading.specs.Reading.{sound, state}
use Rattle.conditions.specs.declared.Condition.{Condition}
use Rattle.licences.specs.declared.Fitter.{Fitter}
use Rattle.licences.specs.declared.Fitter.TheVariants.{First, Second}
use Rattle.licences.specs.Licences.{FIRST, checked_licences, owner_of, owns, other_than}
use Rattle.table.specs.Table.{Table}
use Rattle.table.specs.Read.{read_table}
use Rattle.planning.specs.Sequence.{Answer, Reaches}
use Rattle.planning.specs.Expansion.{Entry}
use Rattle.planning.specs.Demand.{CoveredBy, FirstIn, Fewest}
use Rattle.tree.specs.declared.Status.{Status}
use Rattle.tree.specs.declared.Status.TheVariants.{Success, Running, Waiting}
use Rattle.tree.specs.TickBytes.{tick_bytes, answered}
use Rattle.runs.specs.Joint.{joint}
use Rattle.flat.specs.TreeBytes.{tree_bytes}
use Rattle.flat.specs.FlatTick.{seen_by}
use Rattle.expander.specs.Expands.{Columns, room}
use Rattle.builder.specs.Plan.{table_domain, pairs}
use Rattle.builder.specs.Works.{Works, Irredundant}
use Rattle.team_planner.specs.declared.TeamSize.{TeamSize}
use Rattle.team_planner.specs.Team.{TeamPlan, fitter_tree, plan_team, WritesTeam}

-- ---- the run of both trees: it "ticks both on the same state until neither names a job"

module _ (table : List ℕ) (tree : Fitter → List ℕ) where
  -- what a fitter is told in a state with unread 0
  abbrev pub told_to : Fitter → ℕ → Checked Status
  told_to fitter s = answered (tick_bytes table (tree fitter) (state s))

  abbrev pub joint_on : ℕ → Answer ℕ
  joint_on s = joint (told_to First s) (told_to Second s)

  -- ---- one state short of the goal: "exactly one of them is given a job and the other waits", by that job's licence

  pub record Shared (licences : List ℕ) (jobs : ℕ) (s : ℕ) : Type 0 where
    pub job : ℕ
    pub known : job < jobs
    pub owner : Fitter
    -- an accepted plan has a licence for each job, so that what stands past the row's end does not matter
    pub is_owner : owner ≡ owner_of (get_or licences job FIRST)
    pub given : told_to owner s ≡ accepted (Running job)
    pub waits : told_to (other_than owner) s ≡ accepted Waiting

-- ---- a list and both its trees

pub record TeamWorks (t : Table) (table licences : List ℕ) (list : List (Entry Condition)) (tree : Fitter → List ℕ) : Type 0 where
  -- "Done in turn, these jobs reach the goal in the team's fewest": demand 3's whole claim, of the run of both trees; and what every tick on either tree
  -- keeps, with unread facts too. Neither tree alone is promised Success.
  pub works : (fitter : Fitter) → Works (Fewest (table_domain t) (joint_on table tree) list) t table list (tree fitter)
  -- "In every fully read state the team's list covers short of the goal"
  pub shared : (s : ℕ) → T (within t.facts s) → CoveredBy (table_domain t) list s → (T ((table_domain t).satisfies s (table_domain t).goal) → ⊥)
      → Shared table tree licences (length t.jobs) s
  -- at the goal both answer Success
  pub at_goal : (s : ℕ) → T (within t.facts s) → T ((table_domain t).satisfies s (table_domain t).goal) → (fitter : Fitter)
      → told_to table tree fitter s ≡ accepted Success
  -- on every reading each is told what the team's own tree answers, but that he waits where the job is the other's
  pub seen : (r : Reading) → sound t.facts r ≡ true → (fitter : Fitter)
      → answered (tick_bytes table (tree fitter) r)
      ≡ (and_then (answered (tick_bytes table (tree_bytes (pairs t) list) r)) λ a. accepted (seen_by (owns licences fitter) a))

-- ---- every plan

-- The stops that a plan may meet once the checks are passed: 10 where as many entries as the capacity are stored, 12 where a lent tree has less room
-- than its own bytes take.
abbrev pub NoTeamRoom : List ℕ → Bool → ℕ → (room : Fitter → ℕ) → List (Entry Condition) → ℕ → ℕ → Type 0
NoTeamRoom licences paired capacity room list number place =
    ((number ≡ 10) × (place ≡ capacity))
    ⊎ ((number ≡ 12) × (place ≡ length list) × ((fitter : Fitter) × (room fitter < length (fitter_tree licences paired list fitter))))

-- Of the table t that was read from the bytes, licences, a start, and the plan P with room for so many entries, by whether the list is paired, and so many
-- bytes of each tree:
pub record TeamKeeps (t : Table) (table licences : List ℕ) (start : Reading) (capacity : Bool → ℕ) (room : Fitter → ℕ) (P : TeamPlan) : Type 0 where
  pub works : (p : TeamSize) → P.answer ≡ accepted p → TeamWorks t table licences P.list P.tree
  -- "A plan succeeds wherever the papers give it no stop": for sound licences and a start that is sound and fully read, a plan that is refused is one for
  -- which there is no way, or no room
  pub stops : checked_licences (length t.jobs) licences ≡ accepted licences → sound t.facts start ≡ true → start.unread ≡ 0
      → (n p : ℕ) → P.answer ≡ refused n p
      → ((n ≡ 11) × (p ≡ length P.list)) ⊎ NoTeamRoom licences (pairs t) (capacity (pairs t)) room P.list n p
  -- "No way" means that no sequence of any length leads from the start to the goal
  pub no_way : (p : ℕ) → P.answer ≡ refused 11 p → (w : List ℕ) → Reaches (table_domain t) start.held w → ⊥
  -- the start is covered, and the last entry is the first that it meets
  pub start_covered : (p : TeamSize) → P.answer ≡ accepted p → (i : ℕ) × (p.entries ≡ suc i) × FirstIn (table_domain t) P.list start.held i
  -- no line is dead, in every list that is stored, for tables without 0x21
  pub irredundant : Irredundant t P.list

-- What the entry point gives: the plan of the definition in every lent slice, and the promises about it.
pub record PlansTeam (table licences : List ℕ) (start : Reading) (before after : Columns) (lent trees : Fitter → List ℕ) (r : (Result TeamSize Refusal)) : Type 0 where
  pub writes : WritesTeam (plan_team table licences start (room before) (λ fitter. length (lent fitter))) before after lent trees (answer_of r)
  pub keeps : (t : Table) → read_table table ≡ accepted t
      → TeamKeeps t table licences start (room before) (λ fitter. length (lent fitter)) (plan_team table licences start (room before) (λ fitter. length (lent fitter)))
