-- `distance_steps::label_goal` meets its contract: one more state has its first label.
use Rattle.std.proofs.Common.{arith}
use Rattle.base.specs.Lists.{overlay_next}
use Rattle.conditions.specs.Condition.{plain}
use Rattle.distance_steps.specs.Steps.{first_label}
use Rattle.distance_steps.proofs.label_goal.Goals as goal

pub loop-s-preserved : goal.loop-s-preserved
loop-s-preserved c =
    let l = c.loop-s in
    rw (l.invariant, c.first_label.ensures) (overlay_next (first_label (plain c.args.goal)) l.s c.args.row.now (omega (arith, c.loop-s-test.true)))
