use mathlib.Core.Path.{ap}
use mathlib.Core.Bool.{not}
use Rattle.conditions.specs.Condition.{consistent}
use Rattle.conditions.proofs.is_consistent.Goals as goal

pub returns : goal.returns
unfolding consistent
returns c = ap not c.share_fact.ensures
