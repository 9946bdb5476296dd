-- `job_rows::load` meets its contract: what is read at a job's offset is the job, and past it is the next one's offset.
use Rattle.std.proofs.Common.{◌≡◌, refl, sym, ap, ◌∙◌, List, ℕ, ◌+◌, get_or, arith, rules}
use Rattle.job.specs.declared.PastJob.{PastJob}
use Rattle.job.specs.Job.{no_job, job_from, past_job_of}
use Rattle.table.specs.Table.{offset_of}
use Rattle.table.specs.Read.{jobs_of, read_table}
use Rattle.table.proofs.OffsetLaws.{JobHere, first_offset, job_here}
use Rattle.job_rows.specs.RowLaws.{loads_more}
use Rattle.job_rows.proofs.load.Goals as goal

is_read : {s : List ℕ} {i at : ℕ} (past : PastJob) → JobHere s i at → past_job_of past ≡ job_from s at
    → (past.job ≡ get_or (jobs_of (read_table s)) i no_job) × (past.next ≡ offset_of (jobs_of (read_table s)) (i + 1))
is_read past here e = (ap (λ p. p.value) e ∙ here.is_job, ap (λ p. p.next) e ∙ here.is_next)

pub loop-i-init : goal.loop-i-init
loop-i-init g c = (sym (first_offset _), record { sized = refl; parts = λ none i h. absurd (omega arith); past = refl })

pub job_from-past-requires : goal.job_from-past-requires
job_from-past-requires g c =
    let l = c.loop-i in
    (job_here c.args.table.now (λ i. search rules) l.i l.at (omega (arith, c.loop-i-test.true, c.requires.0)) l.invariant.0).ends

pub loop-i-preserved : goal.loop-i-preserved
loop-i-preserved g c =
    let l = c.loop-i in
    let here = job_here c.args.table.now (λ i. search rules) l.i l.at (omega (arith, c.loop-i-test.true, c.requires.0)) l.invariant.0 in
    let read = is_read c.job_from-past.result here c.job_from-past.ensures in
    (read.1, loads_more l.invariant.1 _ _ read.0 c.part.ensures (omega (arith, c.loop-i-test.true, c.requires.1)))
