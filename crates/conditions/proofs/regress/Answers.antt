-- The operations are those of the definition.
use Rattle.conditions.specs.Condition.{regressed}
use Rattle.conditions.proofs.regress.Goals as goal

pub returns : goal.returns
unfolding regressed
returns c = rw (c.join-absent.ensures, c.without-2.ensures, c.join-present.ensures, c.without.ensures)
