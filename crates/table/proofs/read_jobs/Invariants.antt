-- The loop's invariant: reading on from here, with the jobs that were passed, gives what reading from the first gives. The measure is the number of jobs that
-- may still follow.
use Rattle.std.proofs.Common.{◌≡◌, ◌-◌, ◌≤◌, List, [], length}
use Rattle.job.specs.declared.Job.{Job}
use Rattle.table.specs.Table.{max_jobs, has_pair}
use Rattle.table.specs.Read.{read_jobs}
use Rattle.table.proofs.read_jobs.Given as goal

abbrev pub invariant-loop-due : goal.invariant-loop-due
invariant-loop-due l =
    (l.jobs ≤ max_jobs) × ((js : List Job) × ((length js ≡ l.jobs) × (has_pair js ≡ l.paired)) × (read_jobs l.s l.facts (max_jobs - l.jobs) js l.at ≡ read_jobs l.s l.facts max_jobs [] l.first))

abbrev pub decreases-loop-due : goal.decreases-loop-due
decreases-loop-due l = max_jobs - l.jobs
