-- `tick::tick_tree` meets its contract: the walk over the root, then END, give the tree reader and the tick.
use Rattle.refusal.specs.CheckedLaws.{passed_on}
use Rattle.tick.specs.AnswersLaws.{tree_long, tree_refused, tree_read}
use Rattle.tree.specs.Tick.{continue_table}
use Rattle.tick.proofs.tick_tree.Goals as goal

pub returns-then-tree-gt-MAX_TREE_BYTES : goal.returns-then-tree-gt-MAX_TREE_BYTES
returns-then-tree-gt-MAX_TREE_BYTES c = rw c.at.ensures (tree_long _ _ _ _ c.if-tree-gt-MAX_TREE_BYTES.true)

pub returns-in_err-root : goal.returns-in_err-root
returns-in_err-root c =
    passed_on _ _ c.from_residual.ensures (tree_refused _ _ _ _ c.if-tree-gt-MAX_TREE_BYTES.false continue_table _ _ _ c.in_err-root.ensures)

pub returns : goal.returns
returns c =
    tree_read _ _ _ _ c.if-tree-gt-MAX_TREE_BYTES.false continue_table _ _ _ _ c.in_ok-root.ensures (λ t e. c.read_end.ensures t _ e)
