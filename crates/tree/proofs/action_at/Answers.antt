-- `tree::action_at` meets its contract: an action that is cut, and one that is whole.
use Rattle.tree.specs.ReadTreeLaws.{action_cut, action_whole}
use borrow.Author.Tests.{ltb-true, ltb-false}
use mathlib.Core.Path.{sym, ◌∙◌}
use native.Mathlib.Omega.{arith}
use Rattle.commands.specs.Commands.{JOB_LEAF_SIZE}
use Prim.Native.Nat.{◌+◌}
use lib.ListN.{length}
use Rattle.tree.proofs.action_at.Goals as goal

pub is_cut-requires : goal.is_cut-requires
is_cut-requires c = c.requires.0

pub returns-then-is_cut : goal.returns-then-is_cut
returns-then-is_cut c =
    let p = c.requires in
    rw c.at.ensures (action_cut _ _ p.0 p.1 (ltb-true _ _ (sym c.is_cut.ensures ∙ c.if-is_cut.true)))

pub bounds-tree-at : goal.bounds-tree-at
bounds-tree-at c =
    let a = c.args in
    omega (arith, ltb-false (length a.tree.now) (a.at + JOB_LEAF_SIZE) (sym c.is_cut.ensures ∙ c.if-is_cut.false))

pub returns : goal.returns
returns c =
    let p = c.requires in
    action_whole _ _ p.0 p.1 (ltb-false _ _ (sym c.is_cut.ensures ∙ c.if-is_cut.false))
