-- `tree::branch_at` meets its contract: a node with children that is cut, has none or too many, or has as many as it says.
use Rattle.tree.specs.ReadTreeLaws.{branch_cut, branch_none, branch_many, branch_counted}
use borrow.Author.Tests.{ltb-true, ltb-false}
use mathlib.Core.Path.{sym, ◌∙◌}
use native.Mathlib.Omega.{arith}
use Rattle.commands.specs.Commands.{FALLBACK_SIZE}
use Prim.Native.Nat.{◌+◌}
use lib.ListN.{length}
use Rattle.tree.proofs.branch_at.Goals as goal

pub is_cut-requires : goal.is_cut-requires
is_cut-requires c = c.requires.0

pub returns-then-is_cut : goal.returns-then-is_cut
returns-then-is_cut c = rw c.at.ensures (branch_cut _ _ c.requires.0 c.args.kind c.requires.1 (ltb-true _ _ (sym c.is_cut.ensures ∙ c.if-is_cut.true)))

pub read_u16-count-requires : goal.read_u16-count-requires
read_u16-count-requires c =
    let a = c.args in
    omega (arith, ltb-false (length a.tree.now) (a.at + FALLBACK_SIZE) (sym c.is_cut.ensures ∙ c.if-is_cut.false))

pub returns-then-count-eq0 : goal.returns-then-count-eq0
returns-then-count-eq0 c =
    let whole = ltb-false _ _ (sym c.is_cut.ensures ∙ c.if-is_cut.false) in
    rw c.at-then-count-eq0.ensures (branch_none _ _ c.requires.0 c.args.kind c.requires.1 whole (sym c.read_u16-count.ensures ∙ c.if-count-eq0.true))

pub returns-then-count-gt-MAX_CHILDREN : goal.returns-then-count-gt-MAX_CHILDREN
returns-then-count-gt-MAX_CHILDREN c =
    let whole = ltb-false _ _ (sym c.is_cut.ensures ∙ c.if-is_cut.false) in
    rw c.at-then-count-gt-MAX_CHILDREN.ensures (branch_many _ _ c.requires.0 c.args.kind c.requires.1 whole (λ e. omega (arith, c.read_u16-count.ensures, e)) (rw c.read_u16-count.ensures at c.if-count-gt-MAX_CHILDREN.true))

pub returns : goal.returns
returns c =
    let whole = ltb-false _ _ (sym c.is_cut.ensures ∙ c.if-is_cut.false) in
    rw c.read_u16-count.ensures
    (branch_counted _ _ c.requires.0 c.args.kind c.requires.1 whole (λ e. omega (arith, c.read_u16-count.ensures, e)) (rw c.read_u16-count.ensures at c.if-count-gt-MAX_CHILDREN.false))
