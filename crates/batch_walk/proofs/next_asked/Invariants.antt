-- `batch_walk::next_asked` meets its contract. The loop's invariant: the entry stops none of the vehicles passed.
use Rattle.batch_walk.specs.Steps.{PassedOver}
use Rattle.batch_walk.proofs.next_asked.Given as goal

abbrev pub invariant-loop-v : goal.invariant-loop-v
invariant-loop-v l = PassedOver l.present l.readings.held.now l.readings.unread.now l.statuses l.first l.v
