-- `tree::node_at` meets its contract: what is none of the six commands is no node.
use Rattle.tree.specs.ReadTreeLaws.{node_missing, wait_whole, node_other}
use borrow.Author.Rules.{rules}
use Rattle.tree.proofs.node_at.Goals as goal

pub returns-then-at-tree : goal.returns-then-at-tree
returns-then-at-tree c = rw c.at.ensures (node_missing _ _ c.if-at-tree.true)

pub returns-then-byte-eq-WAITING : goal.returns-then-byte-eq-WAITING
returns-then-byte-eq-WAITING c = wait_whole _ _ (search rules) (search rules)

-- the tests that failed, from the last to the first
pub returns : goal.returns
returns c = rw c.at-2.ensures (node_other _ _ c.if-at-tree.false c.if-byte-eq-FALLBACK.false c.if-byte-eq-SEQUENCE.false c.if-byte-eq-CONDITION.false c.if-byte-eq-JOB_LEAF.false c.if-byte-eq-PAIR.false c.if-byte-eq-WAITING.false)
