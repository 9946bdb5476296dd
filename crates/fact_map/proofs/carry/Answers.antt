-- `fact_map::carry` meets its contract.
use Rattle.std.proofs.Common.{arith}
use Rattle.std.proofs.lemmas.Grind.{common_steps}
use Rattle.fact_map.specs.CarryLaws.{carry_none, carry_next, carry_all}
use Rattle.fact_map.proofs.carry.Goals as goal

pub loop-to-init : goal.loop-to-init
loop-to-init c = grind (arith, common_steps, carry_none)

pub loop-to-preserved : goal.loop-to-preserved
loop-to-preserved c = grind (arith, common_steps, carry_next)

pub returns : goal.returns
returns c = grind (arith, common_steps, carry_all)
