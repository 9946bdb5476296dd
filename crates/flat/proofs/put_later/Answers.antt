-- `flat::put_later` meets its contract: each part is put where the one before it ended.
use Rattle.flat.specs.TreeBytes.{entry_bytes}
use Rattle.flat.specs.TreeBytesLaws.{puts_then}
use Rattle.flat.proofs.put_later.Goals as goal

pub returns : goal.returns
unfolding entry_bytes
returns c = puts_then c.put_branch-condition_at.ensures (puts_then c.put_condition-leaf_at.ensures c.put_leaf.ensures)
