-- `conditions::four_share` meets its contract: each of the four was looked at.
use mathlib.Core.Path.{◌≡◌, sym, ◌∙◌}
use mathlib.Core.Bool.{true, false}
use Prim.Native.Nat.{ℕ}
use native.Mathlib.Omega.{arith}
use Rattle.conditions.specs.SearchLaws.{four_sharing}
use Rattle.conditions.proofs.four_share.Goals as goal

not_so : {A : Type 0} → false ≡ true → A
not_so e = let z : ◌≡◌ {A = ℕ} 0 1 = cc in absurd (omega arith)

pub returns-then-not-share_fact : goal.returns-then-not-share_fact
returns-then-not-share_fact c = λ e. not_so e

pub returns-then-not-share_fact-2 : goal.returns-then-not-share_fact-2
returns-then-not-share_fact-2 c = λ e. not_so e

pub returns-then-not-share_fact-3 : goal.returns-then-not-share_fact-3
returns-then-not-share_fact-3 c = λ e. not_so e

pub returns : goal.returns
returns c =
    λ e.
    four_sharing c.args.conditions.now c.args.others c.args.k c.requires.0
    (sym c.share_fact.ensures ∙ c.if-not-share_fact.false)
    (sym c.share_fact-2.ensures ∙ c.if-not-share_fact-2.false)
    (sym c.share_fact-3.ensures ∙ c.if-not-share_fact-3.false)
    (sym c.share_fact-4.ensures ∙ e)
