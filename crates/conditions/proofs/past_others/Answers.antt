-- `conditions::past_others` meets its contract: all that was passed has a fact that is not the mask's.
use native.Mathlib.Decide.{dec_le}
use native.Mathlib.Omega.{arith}
use Rattle.conditions.proofs.past_others.Goals as goal

pub loop-k-init : goal.loop-k-init
loop-k-init c = (omega arith, λ i a b. absurd (omega arith))

pub four_share-requires : goal.four_share-requires
four_share-requires c = (omega arith, omega arith)

pub returns-then-not-four_share : goal.returns-then-not-four_share
returns-then-not-four_share c =
    (c.loop-k.invariant.0, rw c.others-others.ensures at c.loop-k.invariant.1)

pub loop-k-preserved : goal.loop-k-preserved
loop-k-preserved c = (
  omega (arith, c.loop-k.invariant.0),
  λ i a b.
      elim (dec_le c.loop-k.k i) [
        | yes p ↦ c.loop-k.invariant.1 i p b
        | no p ↦ c.four_share.ensures (c.if-not-four_share.false) i a (omega arith)
      ],
)

pub returns : goal.returns
returns c =
    (c.loop-k.invariant.0, rw c.others-others.ensures at c.loop-k.invariant.1)
