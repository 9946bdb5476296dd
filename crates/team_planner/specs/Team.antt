-- The plan for two fitters at one vehicle, from the bytes of a table, the licences of its jobs and a start reading: document 02, W12.
-- Definitions only.
use Rattle.std.specs.Prelude.{ℕ, Bool, ◌&&◌, List, [], leb, length}
use Rattle.refusal.specs.Checked.{Checked, accepted, and_then}
use Rattle.reading.specs.declared.Reading.{Reading}
use Rattle.reading.specs.Reading.{checked_start}
use Rattle.conditions.specs.declared.Condition.{Condition}
use Rattle.licences.specs.declared.Fitter.{Fitter}
use Rattle.licences.specs.declared.Fitter.TheVariants.{First, Second}
use Rattle.licences.specs.Licences.{checked_licences, owns}
use Rattle.table.specs.Table.{Table}
use Rattle.table.specs.Read.{read_table}
use Rattle.planning.specs.Expansion.{Entry, Outcome}
use Rattle.expander.specs.declared.Until.TheVariants.{Covers}
use Rattle.expander.specs.Expands.{Columns}
use Rattle.flat.specs.TreeBytes.{own_tree}
use Rattle.builder.specs.Finish.{PlanOf, Finish, after_checks_of, planned, WritesLists}
use Rattle.builder.specs.Plan.{pairs, table_list, AtFront}
use Rattle.team_planner.specs.declared.TeamSize.{TeamSize}

-- something of each fitter's
abbrev pub of_each : {A : Type 0} → (first second : A) → Fitter → A
of_each first second First = first
of_each first second Second = second

-- ---- a plan with a tree for each fitter

abbrev pub TeamPlan : Type 0
TeamPlan = PlanOf TeamSize (Fitter → List ℕ)

abbrev pub no_trees : Fitter → List ℕ
no_trees fitter = []

module _ (licences : List ℕ) (paired : Bool) where
  -- "each fitter has a tree of his own in which the other's jobs are a waiting leaf 0x46"
  abbrev pub fitter_tree : List (Entry Condition) → Fitter → List ℕ
  fitter_tree l fitter = own_tree (owns licences fitter) paired l

  abbrev pub team_size : List (Entry Condition) → TeamSize
  team_size l = record { entries = length l; first = length (fitter_tree l First); second = length (fitter_tree l Second); paired = paired }

  -- "Number 12 is judged by each tree's own bytes, for both before either is written."
  abbrev pub both_fit : (room : Fitter → ℕ) → List (Entry Condition) → Bool
  both_fit room l = leb (length (fitter_tree l First)) (room First) && leb (length (fitter_tree l Second)) (room Second)

  -- what is made of the list, where each lent tree has room for so many bytes
  abbrev pub two_trees : (room : Fitter → ℕ) → Finish TeamSize (Fitter → List ℕ)
  two_trees room = record { tell = team_size; trees = fitter_tree; fit = both_fit room; none = no_trees }

-- "One list is planned for the team": document 01's for a start, of a table that was read, with room for so many entries, by whether the list is
-- paired, and so many bytes of each tree
abbrev pub team_by : List ℕ → Table → ℕ → (room : Fitter → ℕ) → Outcome Condition → TeamPlan
team_by licences t start room = planned (two_trees licences (pairs t) room) (pairs t) (Covers start)

unfoldable pub team_plan : List ℕ → Table → ℕ → (Bool → ℕ) → (room : Fitter → ℕ) → TeamPlan
team_plan licences t start capacity room = team_by licences t start room (table_list (Covers start) t capacity)

-- the table's own stops first, then 24, then the start's, 8 and 9: "both after 7"
unfoldable pub team_for : List ℕ → List ℕ → Reading → Checked Table
team_for table licences start =
    and_then (read_table table) λ t. and_then (checked_licences (length t.jobs) licences) λ row. and_then (checked_start t.facts start) λ r. accepted t

unfoldable pub plan_team : List ℕ → List ℕ → Reading → (Bool → ℕ) → (room : Fitter → ℕ) → TeamPlan
plan_team table licences start capacity room = after_checks_of no_trees (team_for table licences start) λ t. team_plan licences t start.held capacity room

-- ---- what a plan leaves in every lent slice

-- each tree stands at the front of the lent one
abbrev pub BothAtFront : (lent trees : Fitter → List ℕ) → (Fitter → List ℕ) → Type 0
BothAtFront lent trees bytes = (fitter : Fitter) → AtFront (lent fitter) (trees fitter) (bytes fitter)

abbrev pub WritesTeam : TeamPlan → (before after : Columns) → (lent trees : Fitter → List ℕ) → Checked TeamSize → Type 0
WritesTeam P before after lent trees told = WritesLists (BothAtFront lent trees) P before after told
