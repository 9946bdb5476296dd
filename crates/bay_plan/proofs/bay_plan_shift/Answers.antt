-- `bay_plan::bay_plan_shift` meets its contract.
use borrow.Author.Rules.{rules}
use Rattle.bay_plan.specs.PlanWordLaws.{shift_answered}
use Rattle.bay_plan.proofs.bay_plan_shift.Goals as goal

pub returns : goal.returns
returns c =
    let planned = c.plan_shift-planned in
    shift_answered planned.ensures c.shift_words-size.ensures
