-- The loop's invariant: the walk stands where the next job does, of which it has passed as many as turns were made.
use Rattle.std.proofs.Common.{◌≡◌}
use Rattle.table.specs.Table.{offset_of}
use Rattle.table.specs.Read.{read_table, jobs_of}
use Rattle.table.proofs.job_at.Given as goal

abbrev pub invariant-loop : goal.invariant-loop
invariant-loop l = l.at ≡ offset_of (jobs_of (read_table l.table)) l.counter
