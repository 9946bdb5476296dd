-- `tree::pair_at` meets its contract: a condition with both masks that is cut, and one that is whole.
use Rattle.tree.specs.ReadTreeLaws.{pair_cut, pair_whole}
use borrow.Author.Tests.{ltb-true, ltb-false}
use mathlib.Core.Path.{sym, ◌∙◌}
use native.Mathlib.Omega.{arith}
use Rattle.commands.specs.Commands.{PAIR_SIZE}
use Prim.Native.Nat.{◌+◌, ◌≤◌}
use lib.ListN.{length}
use Rattle.tree.proofs.pair_at.Goals as goal
use Rattle.tree.proofs.pair_at.Lts as Lts
use Rattle.tree.proofs.pair_at.Tie as Tie
use Rattle.tree.proofs.pair_at.Reads as Reads

abbrev AtElse1 : Type 0
AtElse1 = Lts.Else1 Tie.the-claims Reads.Pre Reads.Post

pub is_cut-requires : goal.is_cut-requires
is_cut-requires c = c.requires.0

pub returns-then-is_cut : goal.returns-then-is_cut
returns-then-is_cut c =
    let p = c.requires in
    rw c.at.ensures (pair_cut _ _ p.0 p.1 (ltb-true _ _ (sym c.is_cut.ensures ∙ c.if-is_cut.true)))

-- all of its bytes are there
whole : (c : AtElse1) → let a = c.before.before.before.args in a.at + PAIR_SIZE ≤ length a.tree.now
whole c = ltb-false _ _ (sym c.is_cut.ensures ∙ c.if-is_cut.false)

pub read_u64-present-requires : goal.read_u64-present-requires
read_u64-present-requires c = omega (arith, whole c.before)

pub read_u64-absent-requires : goal.read_u64-absent-requires
read_u64-absent-requires c = omega (arith, whole c.before.before)

pub returns : goal.returns
returns c =
    let p = c.requires in
    rw (c.read_u64-present.ensures, c.read_u64-absent.ensures) (pair_whole _ _ p.0 p.1 (whole c.before.before.before))
