-- `batch_checks::check_readings` meets its contract. The loop's invariant: the readings passed are sound.
use Rattle.std.proofs.Common.{ℕ, ◌<◌}
use Rattle.batch_checks.specs.CheckLaws.{ReadingPasses}
use Rattle.batch_checks.proofs.check_readings.Given as goal

abbrev pub invariant-loop-v : goal.invariant-loop-v
invariant-loop-v l = (i : ℕ) → i < l.v → ReadingPasses l.facts l.readings.held.now l.readings.unread.now i
