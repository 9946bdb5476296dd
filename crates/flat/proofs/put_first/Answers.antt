-- `flat::put_first` meets its contract: the count of entries, and the condition after it.
use Rattle.flat.specs.TreeBytes.{first_bytes}
use Rattle.flat.specs.TreeBytesLaws.{puts_then}
use Rattle.flat.proofs.put_first.Goals as goal

pub returns : goal.returns
unfolding first_bytes
returns c = puts_then c.put_branch-at.ensures c.put_condition.ensures
