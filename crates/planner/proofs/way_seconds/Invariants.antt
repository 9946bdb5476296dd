-- `planner::way_seconds` meets its contract. The loop's invariant: the seconds so far and those of the rest of the way are the whole way's.
-- So no sum of the loop exceeds the way's, which has room: each job is listed with at most 5,400 seconds, and at most 4,095 are on the way.
-- The measure is the entry, since each parent is an earlier one.
use mathlib.Core.Path.{◌≡◌}
use Prim.Native.Nat.{◌+◌, ◌≤◌}
use Rattle.planning.specs.Listing.{path}
use Rattle.planner.specs.Way.{linked, row_seconds}
use Rattle.planner.proofs.way_seconds.Given as goal

abbrev pub invariant-loop-i : goal.invariant-loop-i
invariant-loop-i l =
    (l.i ≤ l.last) × (l.sum + row_seconds l.seconds (path (linked l.actions l.parents) l.i) ≡ row_seconds l.seconds (path (linked l.actions l.parents) l.last))

abbrev pub decreases-loop-i : goal.decreases-loop-i
decreases-loop-i l = l.i
