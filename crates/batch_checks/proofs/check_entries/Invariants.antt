-- `batch_checks::check_entries` meets its contract. The loop's invariant: the entries passed are in range.
use Rattle.std.proofs.Common.{ℕ, ◌<◌}
use Rattle.batch_checks.specs.CheckLaws.{EntryPasses}
use Rattle.batch_checks.proofs.check_entries.Given as goal

abbrev pub invariant-loop-i : goal.invariant-loop-i
invariant-loop-i l = (j : ℕ) → j < l.i → EntryPasses l.fn.header.facts l.fn.header.jobs l.entries.conditions.now l.entries.absences.now l.entries.actions.now j
