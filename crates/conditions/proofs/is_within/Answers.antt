-- `conditions::is_within` meets its contract: a union is within the facts exactly where both masks are.
use Rattle.masks.specs.Laws.{within_both}
use Rattle.conditions.proofs.is_within.Goals as goal

pub returns : goal.returns
returns c = rw (c.join.ensures, within_both) at c.is_within.ensures
