-- The promise of a plan for two fitters, with its answer in words.
-- Assumes nothing.
use Rattle.std.specs.Prelude.{◌≡◌, List, ℕ, get_or, Result}
use Rattle.std.proofs.Common.{ap, ◌∙◌}
use Rattle.reading.specs.declared.Reading.{Reading}
use Rattle.licences.specs.declared.Fitter.{Fitter}
use Rattle.expander.specs.Expands.{Columns}
use Rattle.team_planner.specs.Promise.{PlansTeam}
use Rattle.bay_words.specs.Words.{words}
use Rattle.bay_words.specs.WordLaws.{answered_by}
use Rattle.bay_team.specs.TeamWords.{team_words, TeamAnswered}
use Rattle.refusal.specs.Checked.{answer_of}
use Rattle.refusal.specs.declared.Refusal.{Refusal}
use Rattle.team_planner.specs.declared.TeamSize.{TeamSize}

pub team_answered : {table licences : List ℕ} {start : Reading} {before after : Columns} {lent trees : Fitter → List ℕ} {answer : List ℕ} {r : (Result TeamSize Refusal)}
    → PlansTeam table licences start before after lent trees r → answer ≡ words 5 team_words (answer_of r)
    → TeamAnswered table licences start before after lent trees answer (get_or answer 0 0)
team_answered plans e =
    let told = plans.writes.answer_and_tree.answer in
    record { writes = rw told at plans.writes; answers = answered_by (e ∙ ap (words 5 team_words) told); keeps = plans.keeps }
