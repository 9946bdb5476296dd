-- `planner::way_seconds` meets its contract. The loop's invariant: the seconds so far and those of the rest of the way are the whole way's.
-- So no sum of the loop exceeds the way's, which has room: each job is listed with at most 5,400 seconds, and at most 4,095 are on the way.
-- The measure is the entry, since each parent is an earlier one.
use Rattle.std.proofs.Common.{arith}
use Rattle.planner.specs.WayLaws.{way_most, seconds_step, link_earlier, link_known}
use Rattle.planner.proofs.way_seconds.Goals as goal

pub bounds-seconds-job : goal.bounds-seconds-job
bounds-seconds-job c = link_known c.requires.0 c.loop-i.i (omega (arith, c.loop-i-test.true)) (omega (arith, c.loop-i.invariant.0))

pub overflow_add-sum : goal.overflow_add-sum
overflow_add-sum c =
    let a = c.args in
    let step = seconds_step c.requires.0 a.seconds.now c.loop-i.i (omega (arith, c.loop-i-test.true)) (omega (arith, c.loop-i.invariant.0)) in
    let most = way_most a.seconds.now c.requires.1 a.actions.now a.parents.now a.last in
    omega (arith, c.loop-i.invariant.1, step, c.requires.0.few, most)

pub loop-i-smaller : goal.loop-i-smaller
loop-i-smaller c = link_earlier c.requires.0 c.loop-i.i (omega (arith, c.loop-i-test.true)) (omega (arith, c.loop-i.invariant.0))

pub loop-i-preserved : goal.loop-i-preserved
loop-i-preserved c =
    let step = seconds_step c.requires.0 c.args.seconds.now c.loop-i.i (omega (arith, c.loop-i-test.true)) (omega (arith, c.loop-i.invariant.0)) in
    let earlier = link_earlier c.requires.0 c.loop-i.i (omega (arith, c.loop-i-test.true)) (omega (arith, c.loop-i.invariant.0)) in
    (omega (arith, earlier, c.loop-i.invariant.0), omega (arith, c.loop-i.invariant.1, step))
