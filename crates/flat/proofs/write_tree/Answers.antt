-- `flat::write_tree` meets its contract: entry 0, the others and END are put one after the other, and fill the tree's bytes.
use Rattle.flat.specs.TreeBytesLaws.{puts_front, tree_put}
use Rattle.flat.proofs.write_tree.Goals as goal

pub returns : goal.returns
returns c =
    puts_front
    (tree_put _ _ _ _ _ _ c.requires.0 c.condition-goal.ensures c.put_first-first.ensures c.put_entries-end.ensures c.put_end.ensures)
    c.requires.3
