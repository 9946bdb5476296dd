-- The tests are those of the definition, in its order.
use Rattle.conditions.specs.Condition.{relevant}
use Rattle.conditions.proofs.is_relevant.Goals as goal

pub returns-then-share_fact : goal.returns-then-share_fact
unfolding relevant
returns-then-share_fact c = rw (← c.share_fact.ensures, c.if-share_fact.true)

pub returns-then-share_fact-2 : goal.returns-then-share_fact-2
unfolding relevant
returns-then-share_fact-2 c = rw (← c.share_fact.ensures, c.if-share_fact.false, ← c.share_fact-2.ensures, c.if-share_fact-2.true)

pub returns-then-share_fact-3 : goal.returns-then-share_fact-3
unfolding relevant
returns-then-share_fact-3 c =
    rw (
      ← c.share_fact.ensures,
      c.if-share_fact.false,
      ← c.share_fact-2.ensures,
      c.if-share_fact-2.false,
      ← c.share_fact-3.ensures,
      c.if-share_fact-3.true,
    )

pub returns : goal.returns
unfolding relevant
returns c =
    rw (
      ← c.share_fact.ensures,
      c.if-share_fact.false,
      ← c.share_fact-2.ensures,
      c.if-share_fact-2.false,
      ← c.share_fact-3.ensures,
      c.if-share_fact-3.false,
    )
    c.share_fact-4.ensures
