-- Each mask is put together as its definition is.
use Rattle.conditions.specs.Condition.{applied}
use Rattle.conditions.specs.OnReading.{finished}
use Rattle.conditions.proofs.finish.Goals as goal

pub returns : goal.returns
unfolding finished applied
returns c =
    rw (c.without-held.ensures, c.join.ensures, c.without-unread.ensures, c.without.ensures)
