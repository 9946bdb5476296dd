-- `flat::tree_size` meets its contract: the sizes of the parts add up to that of the tree.
use Rattle.std.proofs.Common.{◌∙◌}
use Rattle.conditions.specs.Condition.{plain}
use Rattle.flat.specs.TreeBytesLaws.{condition_size_is, counted_size}
use Rattle.flat.proofs.tree_size.Goals as goal

pub returns : goal.returns
returns c =
    let a = c.args in
    λ mine l e f.
    rw (c.condition_size-condition.ensures.size (plain 0) ∙ condition_size_is a.paired (plain 0)) (counted_size mine a.paired a.n a.leaves l c.requires.0 e f)
