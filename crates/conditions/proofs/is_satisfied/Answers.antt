-- The two tests are the two halves of the definition; the second is made where the first held.
use mathlib.Core.Path.{ap}
use mathlib.Core.Bool.{not}
use Rattle.conditions.specs.Condition.{satisfied}
use Rattle.conditions.proofs.is_satisfied.Goals as goal

pub returns-then-is_subset : goal.returns-then-is_subset
unfolding satisfied
returns-then-is_subset c = rw (← c.is_subset.ensures, c.if-is_subset.true) (ap not c.share_fact.ensures)

pub returns-else-is_subset : goal.returns-else-is_subset
unfolding satisfied
returns-else-is_subset c = rw (← c.is_subset.ensures, c.if-is_subset.false)
