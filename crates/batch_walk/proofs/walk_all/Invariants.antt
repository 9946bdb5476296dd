-- `batch_walk::walk_all` meets its contract. The loop's invariant: the rows have the answers of the entries fetched, it is known how many
-- vehicles go on, which are some, and all that was fetched is read.
use Rattle.std.proofs.Common.{◌≡◌, ◌≤◌, ◌<◌}
use Rattle.flat.specs.TreeBytes.{entries_in}
use Rattle.batch_walk.specs.Batch.{readings_in, answer_rows, entries_read}
use Rattle.batch_walk.specs.Steps.{walked_rows, rows_after, going_after}
use Rattle.batch_walk.proofs.Ends.{Ends}
use Rattle.batch_walk.proofs.walk_all.Given as goal

abbrev pub invariant-loop-entry : goal.invariant-loop-entry
invariant-loop-entry l =
    let w = walked_rows l.entries l.readings in
    let before = answer_rows l.fn.statuses l.fn.values in
    let now = answer_rows l.statuses l.values in
    (0 < l.going)
    × (now ≡ rows_after w l.entry l.vehicles before)
    × (l.going ≡ going_after w l.entry l.vehicles)
    × (l.entry ≤ entries_read (entries_in l.entries l.n) (readings_in l.readings l.vehicles))
    × Ends w l.n l.vehicles l.entry l.going before now
