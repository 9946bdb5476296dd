-- The two tests are the two halves of the definition; the second is made where the first held.
use mathlib.Core.Path.{ap, ◌∙◌}
use mathlib.Core.Bool.{not}
use Rattle.masks.specs.Sets.{intersects}
use Rattle.conditions.specs.OnReading.{applicable}
use Rattle.conditions.proofs.is_applicable.Goals as goal

pub returns-then-is_subset : goal.returns-then-is_subset
unfolding applicable
returns-then-is_subset c =
    rw (← c.is_subset.ensures, c.if-is_subset.true) (ap not (c.share_fact.ensures ∙ ap (intersects _) c.join-not_absent.ensures))

pub returns-else-is_subset : goal.returns-else-is_subset
unfolding applicable
returns-else-is_subset c = rw (← c.is_subset.ensures, c.if-is_subset.false)
