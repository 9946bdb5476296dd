-- `job::job_from` meets its contract, by the job's command.
use Prim.Native.Nat.{ℕ, ◌+◌}
use native.Mathlib.Omega.{arith}
use mathlib.Core.Path.{ap, ◌∙◌}
use mathlib.Core.Bool.{true}
use Rattle.commands.specs.Commands.{PAIRED_ADDS_AT, PAIRED_JOB_SIZE}
use Rattle.job.specs.Job.{job_with}
use Rattle.job.proofs.JobLaws.{from_pair, from_plain, from_byte}
use Rattle.job.proofs.job_from.Goals as goal

pub bounds-s-at : goal.bounds-s-at
bounds-s-at c =
    let a = c.args in
    omega (arith, from_byte a.s.now a.at, c.requires)

-- the job's bytes, all of which are there
pub read_u64-absent-requires : goal.read_u64-absent-requires
read_u64-absent-requires c =
    let ends = ap (λ p. p.next) (from_pair c.args.s.now c.args.at c.if-byte-eq-PAIRED_JOB.true) in
    omega (arith, ends, c.requires)

pub job_with-requires : goal.job_with-requires
job_with-requires c =
    let ends = ap (λ p. p.next) (from_pair c.args.s.now c.args.at c.if-byte-eq-PAIRED_JOB.true) in
    (omega (arith, ends, c.requires), omega arith)

pub returns-then-byte-eq-PAIRED_JOB : goal.returns-then-byte-eq-PAIRED_JOB
returns-then-byte-eq-PAIRED_JOB c =
    let s = c.args.s.now in
    c.job_with.ensures
    ∙ ap (λ (absent : ℕ). record { value = job_with true absent PAIRED_ADDS_AT s c.args.at; next = c.args.at + PAIRED_JOB_SIZE }) c.read_u64-absent.ensures
    ∙ from_pair s c.args.at c.if-byte-eq-PAIRED_JOB.true

pub job_with-requires-2 : goal.job_with-requires-2
job_with-requires-2 c =
    let ends = ap (λ p. p.next) (from_plain c.args.s.now c.args.at c.if-byte-eq-PAIRED_JOB.false) in
    (omega (arith, ends, c.requires), omega arith)

pub returns : goal.returns
returns c =
    c.job_with-2.ensures ∙ from_plain c.args.s.now c.args.at c.if-byte-eq-PAIRED_JOB.false
