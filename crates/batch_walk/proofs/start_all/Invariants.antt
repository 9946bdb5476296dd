-- `batch_walk::start_all` meets its contract. The loop's invariant: the vehicles passed have their answers.
use Rattle.std.proofs.Common.{◌≡◌}
use Rattle.tree.specs.declared.Status.TheVariants.{Failure}
use Rattle.batch_walk.specs.Batch.{answer_rows}
use Rattle.batch_walk.specs.Steps.{numbered, over_rows}
use Rattle.batch_walk.proofs.start_all.Given as goal

abbrev pub invariant-loop-v : goal.invariant-loop-v
invariant-loop-v l = answer_rows l.statuses l.values ≡ over_rows (λ i. numbered Failure) l.v (answer_rows l.initial.statuses l.initial.values)
