-- What the plan for two fitters gives, in the words of include/bay.h.
-- Definitions only.
use Rattle.std.specs.Prelude.{◌≡◌, List, [], ◌∷◌, ℕ, length}
use Rattle.refusal.specs.Checked.{accepted}
use Rattle.reading.specs.declared.Reading.{Reading}
use Rattle.licences.specs.declared.Fitter.{Fitter}
use Rattle.table.specs.Table.{Table}
use Rattle.table.specs.Read.{read_table}
use Rattle.expander.specs.Expands.{Columns, room}
use Rattle.team_planner.specs.declared.TeamSize.{TeamSize}
use Rattle.team_planner.specs.Team.{TeamPlan, plan_team, WritesTeam}
use Rattle.team_planner.specs.Promise.{TeamKeeps}
use Rattle.bay_words.specs.Words.{words, flag_word, Answered}

-- entries, bytes of the first fitter's tree and of the second's, and whether list and trees hold second masks
abbrev pub team_words : TeamSize → List ℕ
team_words s = s.entries ∷ s.first ∷ s.second ∷ flag_word s.paired ∷ []

-- the plan that the definition gives
abbrev pub team_due : (table licences : List ℕ) → Reading → Columns → (lent : Fitter → List ℕ) → TeamPlan
team_due table licences start before lent = plan_team table licences start (room before) (λ fitter. length (lent fitter))

-- what a plan promises of the lent list tables and trees and of its answer; and what holds of every plan
pub record TeamAnswered (table licences : List ℕ) (start : Reading) (before after : Columns) (lent trees : Fitter → List ℕ) (answer : List ℕ) (result : ℕ) : Type 0 where
  pub writes : WritesTeam (team_due table licences start before lent) before after lent trees (team_due table licences start before lent).answer
  pub answers : Answered (words 5 team_words (team_due table licences start before lent).answer) answer result
  pub keeps : (t : Table) → read_table table ≡ accepted t
      → TeamKeeps t table licences start (room before) (λ fitter. length (lent fitter)) (team_due table licences start before lent)
