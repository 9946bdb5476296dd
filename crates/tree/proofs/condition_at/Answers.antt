-- `tree::condition_at` meets its contract: a condition that is cut, and one that is whole.
use Rattle.tree.specs.ReadTreeLaws.{condition_cut, condition_whole}
use borrow.Author.Tests.{ltb-true, ltb-false}
use mathlib.Core.Path.{sym, ◌∙◌}
use native.Mathlib.Omega.{arith}
use Rattle.commands.specs.Commands.{CONDITION_SIZE}
use Prim.Native.Nat.{◌+◌}
use lib.ListN.{length}
use Rattle.tree.proofs.condition_at.Goals as goal

pub is_cut-requires : goal.is_cut-requires
is_cut-requires c = c.requires.0

pub returns-then-is_cut : goal.returns-then-is_cut
returns-then-is_cut c =
    let p = c.requires in
    rw c.at.ensures (condition_cut _ _ p.0 p.1 (ltb-true _ _ (sym c.is_cut.ensures ∙ c.if-is_cut.true)))

pub read_u64-present-requires : goal.read_u64-present-requires
read_u64-present-requires c =
    let a = c.args in
    omega (arith, ltb-false (length a.tree.now) (a.at + CONDITION_SIZE) (sym c.is_cut.ensures ∙ c.if-is_cut.false))

pub returns : goal.returns
returns c =
    let p = c.requires in
    rw c.read_u64-present.ensures (condition_whole _ _ p.0 p.1 (ltb-false _ _ (sym c.is_cut.ensures ∙ c.if-is_cut.false)))
