-- `table_cases::show_many` is safe: 129 jobs of either kind are within the buffer.
use Rattle.std.proofs.Common.{length, ◌+◌, ◌*◌, ◌≡◌, ◌≤◌}
use Rattle.commands.specs.Commands.{FACTS_SIZE, PAIRED_JOB_SIZE}
use Rattle.table_cases.proofs.show_many.Given as goal

abbrev pub invariant-loop : goal.invariant-loop
invariant-loop g l = (FACTS_SIZE ≤ l.at) × (l.at ≤ FACTS_SIZE + PAIRED_JOB_SIZE * l.counter) × (length l.out ≡ 4608)
