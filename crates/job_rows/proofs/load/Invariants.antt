-- `job_rows::load` meets its contract. The loop's invariant: the walk stands where the next job does (`job_here`), and the jobs passed are loaded.
use Rattle.std.proofs.Common.{◌≡◌}
use Rattle.table.specs.Table.{offset_of}
use Rattle.table.specs.Read.{jobs_of, read_table}
use Rattle.job_rows.specs.Rows.{Loads}
use Rattle.job_rows.proofs.load.Given as goal

abbrev pub invariant-loop-i : goal.invariant-loop-i
invariant-loop-i g l =
    (l.at ≡ offset_of (jobs_of (read_table l.table)) l.i)
    × Loads (goal.F-post g l.part) (jobs_of (read_table l.table)) l.i l.initial.row l.row
