-- `table::with_pair` meets its contract.
use Rattle.table.proofs.with_pair.Goals as goal

pub returns-then-before : goal.returns-then-before
returns-then-before c = rw c.if-before.true

pub returns-else-before : goal.returns-else-before
returns-else-before c = rw c.if-before.false
