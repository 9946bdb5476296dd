-- The remainder has the sign of the seconds, so of two tests for the two signs one at most can hold, and it is the rule's test without the sign.
use borrow.Author.Rules.{rules}
use native.Mathlib.Omega.{arith}
use Prim.Native.Nat.{◌-◌, ◌^◌}
use Rattle.minutes.proofs.Signed.{Half, over, under, quot_held, again_held, sum_fits, rest_fits, even, minutes_held, tested}
use Rattle.minutes.proofs.signed_minutes.Reads as reads
use Rattle.minutes.proofs.signed_minutes.Lts as lts
use Rattle.minutes.proofs.signed_minutes.Goals as goal

pub nonzero_div-minutes : goal.nonzero_div-minutes
nonzero_div-minutes c = (search rules, quot_held _ c.ranges.seconds _)

pub nonzero_rem-rest : goal.nonzero_rem-rest
nonzero_rem-rest c = (search rules, quot_held _ c.ranges.seconds _)

pub overflow_add-result : goal.overflow_add-result
overflow_add-result c = let f = c.ranges.seconds in sum_fits _ f _ (omega arith)

pub overflow_sub-result : goal.overflow_sub-result
overflow_sub-result c = let f = c.ranges.seconds in sum_fits _ f _ (omega arith)

-- the remainder is 30 or -30, as 64 bits
half : (c : lts.Joined3 reads.Pre reads.Post) → Half c.args.seconds
half c =
    let f = c.ranges.seconds in
    elim c.then-rest-eq30.branch [
      | lts.then-rest-eq30-via-then-rest-eq30 h ↦ over (tested _ f 30 h.if-rest-eq30.true)
      | lts.then-rest-eq30-via-else-rest-eq30+then-rest h ↦ under (tested _ f (2 ^ 64 - 30) h.if-rest.true)
    ]

pub nonzero_rem-result : goal.nonzero_rem-result
nonzero_rem-result c = (search rules, again_held _ c.ranges.seconds _)

pub overflow_add-result-then-rest-eq30 : goal.overflow_add-result-then-rest-eq30
overflow_add-result-then-rest-eq30 c = let f = c.ranges.seconds in sum_fits _ f _ (rest_fits _ f _)

pub returns-then-rest-eq30 : goal.returns-then-rest-eq30
returns-then-rest-eq30 c = let f = c.ranges.seconds in minutes_held _ f (even _ f (half c))
