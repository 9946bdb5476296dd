-- `recovery_parts::copy_list` meets its contract.
use Rattle.std.proofs.Common.{refl, [], arith}
use Rattle.expander.specs.Expands.{columns}
use Rattle.recovery_parts.specs.PartsLaws.{copied_next}
use Rattle.recovery_parts.proofs.copy_list.Goals as goal

pub loop-i-init : goal.loop-i-init
loop-i-init c = refl

pub loop-i-preserved : goal.loop-i-preserved
loop-i-preserved c =
    let a = c.args in
    copied_next (columns a.from_conditions.now [] a.from_actions.now a.from_parents.now a.from_depths.now) (columns a.conditions.now [] a.actions.now a.parents.now a.depths.now) a.n
    c.loop-i.i c.requires.1 (omega (arith, c.loop-i-test.true)) _ c.loop-i.invariant
