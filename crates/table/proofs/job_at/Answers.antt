-- `table::job_at` meets its contract: the walk stands where the job with its counter's number does (`job_here`).
use Rattle.std.proofs.Common.{◌≡◌, sym, ap, ◌∙◌, arith}
use Rattle.table.specs.Read.{read_table, jobs_of}
use Rattle.table.proofs.OffsetLaws.{first_offset, job_here}
use Rattle.table.proofs.job_at.Goals as goal

pub loop-init : goal.loop-init
loop-init c = sym (first_offset (jobs_of (read_table c.args.table.now)))

pub job_from-past-requires : goal.job_from-past-requires
job_from-past-requires c = (job_here c.args.table.now (λ i. (c.type_inv.table i).fits) c.loop.counter c.loop.at (omega arith) c.loop.invariant).ends

pub loop-preserved : goal.loop-preserved
loop-preserved c =
    ap (λ p. p.next) c.job_from-past.ensures ∙ (job_here c.args.table.now (λ i. (c.type_inv.table i).fits) c.loop.counter c.loop.at (omega arith) c.loop.invariant).is_next

pub job_from-past-requires-2 : goal.job_from-past-requires-2
job_from-past-requires-2 c = (job_here c.args.table.now (λ i. (c.type_inv.table i).fits) c.loop.counter c.loop.at (omega arith) c.loop.invariant).ends

pub returns : goal.returns
returns c =
    let last : c.loop.counter ≡ c.args.index = omega arith in
    ap (λ p. p.value) c.job_from-past-2.ensures
    ∙ (job_here c.args.table.now (λ i. (c.type_inv.table i).fits) c.loop.counter c.loop.at (omega arith) c.loop.invariant).is_job ∙ rw last
