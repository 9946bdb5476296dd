-- `job::size_of` meets its contract, by the job's command.
use mathlib.Core.Path.{sym, ap, ◌∙◌}
use Rattle.job.proofs.JobLaws.{size_by, job_size_is}
use Rattle.job.proofs.size_of.Goals as goal

pub returns-then-job : goal.returns-then-job
returns-then-job c = sym (job_size_is c.args.job ∙ ap size_by c.if-job.true)

pub returns : goal.returns
returns c = sym (job_size_is c.args.job ∙ ap size_by c.if-job.false)
