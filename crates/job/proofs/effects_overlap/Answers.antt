-- `job::effects_overlap` meets its contract: each test of the code is one of the definition's, in its order.
use Rattle.job.proofs.effects_overlap.Goals as goal

pub returns-then-share_fact : goal.returns-then-share_fact
returns-then-share_fact c = rw (← c.share_fact.ensures, c.if-share_fact.true)

pub returns-else-share_fact : goal.returns-else-share_fact
returns-else-share_fact c = rw (← c.share_fact.ensures, c.if-share_fact.false) c.share_fact-else-share_fact.ensures
