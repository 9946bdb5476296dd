-- `fact_map::map_reading` meets its contract: 27, or what the sets come to fact by fact.
use Rattle.std.proofs.Common.{arith}
use Rattle.std.proofs.lemmas.Grind.{common_steps}
use Rattle.fact_map.specs.FactMapLaws.{mapped_refused, mapped_sets}
use Rattle.fact_map.proofs.map_reading.Goals as goal

pub returns-in_err-taken : goal.returns-in_err-taken
returns-in_err-taken c = grind (arith, common_steps, mapped_refused)

pub returns : goal.returns
returns c = grind (arith, common_steps, mapped_sets)
