-- A plan's promise, with its answer in words.
-- Assumes nothing.
use Rattle.std.specs.Prelude.{◌≡◌, List, ℕ, length, get_or, Result}
use Rattle.std.proofs.Common.{ap, ◌∙◌}
use Rattle.reading.specs.declared.Reading.{Reading}
use Rattle.expander.specs.Expands.{Columns, room}
use Rattle.planner.specs.Plan.{plan_for}
use Rattle.planner.specs.Promise.{Plans}
use Rattle.shift_planner.specs.Shift.{plan_shift, PlansShift}
use Rattle.bay_words.specs.Words.{words}
use Rattle.bay_words.specs.WordLaws.{answered_by}
use Rattle.bay_plan.specs.PlanWords.{summary_words, size_words, PlanAnswered, ShiftAnswered}
use Rattle.refusal.specs.Checked.{answer_of}
use Rattle.refusal.specs.declared.Refusal.{Refusal}
use Rattle.planner.specs.declared.Summary.{Summary}
use Rattle.builder.specs.declared.Size.{Size}

-- a plan for a start
pub plan_answered : {table : List ℕ} {start : Reading} {before after : Columns} {tree_before tree_after lent : List ℕ} {r : (Result Summary Refusal)}
    → Plans table start before after tree_before tree_after r → lent ≡ words 6 summary_words (answer_of r)
    → PlanAnswered table start (plan_for table start (room before) (length tree_before)) before after tree_before tree_after lent (get_or lent 0 0)
plan_answered plans e =
    let told = plans.writes.answer_and_tree.answer in
    record { writes = rw told at plans.writes; answers = answered_by (e ∙ ap (words 6 summary_words) told); keeps = plans.keeps }

-- a plan for the whole shift
pub shift_answered : {table : List ℕ} {before after : Columns} {tree_before tree_after lent : List ℕ} {r : (Result Size Refusal)}
    → PlansShift table before after tree_before tree_after r → lent ≡ words 4 size_words (answer_of r)
    → ShiftAnswered table (plan_shift table (room before) (length tree_before)) before after tree_before tree_after lent (get_or lent 0 0)
shift_answered plans e =
    let told = plans.writes.answer_and_tree.answer in
    record { writes = rw told at plans.writes; answers = answered_by (e ∙ ap (words 4 size_words) told); serves = plans.serves }
