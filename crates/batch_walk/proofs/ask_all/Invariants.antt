-- `batch_walk::ask_all` meets its contract. The loop's invariant: the vehicles passed have the entry's answer, and those of them that stop are counted.
use Rattle.std.proofs.Common.{◌≡◌, ◌≤◌, ◌-◌}
use Rattle.base.specs.Lists.{sum}
use Rattle.batch_walk.specs.Batch.{answer_rows}
use Rattle.batch_walk.specs.Steps.{over_rows, after_entry, stops_at}
use Rattle.batch_walk.proofs.ask_all.Given as goal

abbrev pub invariant-loop-v : goal.invariant-loop-v
invariant-loop-v l =
    let before = answer_rows l.initial.statuses l.initial.values in
    ((l.first ≤ l.vehicles) × (l.stopped ≤ l.first))
    × (answer_rows l.statuses l.values ≡ over_rows (after_entry l.condition l.met l.readings.held.now l.readings.unread.now before) l.first before)
    × (l.stopped ≡ sum (stops_at l.condition l.met l.readings.held.now l.readings.unread.now before) l.first)

abbrev pub decreases-loop-v : goal.decreases-loop-v
decreases-loop-v l = l.vehicles - l.first
