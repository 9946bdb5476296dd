-- `bay_plan::bay_plan` meets its contract.
use borrow.Author.Rules.{rules}
use Rattle.bay_plan.specs.PlanWordLaws.{plan_answered}
use Rattle.bay_plan.proofs.bay_plan.Goals as goal

pub returns : goal.returns
returns c =
    let planned = c.plan-planned in
    plan_answered planned.ensures c.planned_words-summary.ensures
