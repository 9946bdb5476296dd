-- `tree::status_of` meets its contract: each evaluation has its status.
use Rattle.tree.proofs.status_of.Goals as goal

pub returns-in-Open : goal.returns-in-Open
returns-in-Open c = rw c.in-Open.is
