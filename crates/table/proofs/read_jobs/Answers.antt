-- `table::read_jobs` meets its contract.
use Rattle.std.proofs.Common.{◌≡◌, refl, sym, ap, ◌∙◌, ◌+◌, ◌-◌, suc, Bool, ◌||◌, [], ◌∷◌, ◌++◌, length-append, arith}
use Rattle.refusal.specs.CheckedLaws.{passed_on}
use Rattle.job.specs.Validation.{validated_job}
use Rattle.table.specs.Table.{max_jobs, has_pair}
use Rattle.table.specs.Read.{headed}
use Rattle.table.proofs.PairLaws.{pair_snoc}
use Rattle.table.proofs.ReadLaws.{goal_inside, job_whole, jobs_refused, jobs_goal, jobs_full, jobs_bad, jobs_more}
use Rattle.table.proofs.read_jobs.Goals as goal

pub loop-due-init : goal.loop-due-init
unfolding has_pair
loop-due-init c = (omega arith, ([], (refl, refl), refl))

pub returns-in_err-due : goal.returns-in_err-due
returns-in_err-due c =
    let i = c.loop-due.invariant.1 in
    passed_on _ _ c.from_residual.ensures (ap headed (jobs_refused _ _ i.0 _ (max_jobs - c.loop-due.jobs) _ _ c.in_err-due.ensures ∙ i.2))

pub read_goal-requires : goal.read_goal-requires
read_goal-requires c = (goal_inside _ _ _ c.in_ok-due.ensures c.if-due-eq-GOAL.true).1

pub returns-then-due-eq-GOAL : goal.returns-then-due-eq-GOAL
returns-then-due-eq-GOAL c =
    let i = c.loop-due.invariant.1 in
    c.read_goal.ensures i.0 i.1.0 i.1.1 ∙ ap headed (jobs_goal _ _ i.0 _ _ c.in_ok-due.ensures (max_jobs - c.loop-due.jobs) c.if-due-eq-GOAL.true ∙ i.2)

pub returns-then-jobs-eq-MAX_JOBS : goal.returns-then-jobs-eq-MAX_JOBS
returns-then-jobs-eq-MAX_JOBS c =
    let i = c.loop-due.invariant.1 in
    let none : max_jobs - c.loop-due.jobs ≡ 0 = omega arith in
    rw c.at.ensures (ap headed (jobs_full _ _ i.0 _ _ c.in_ok-due.ensures c.if-due-eq-GOAL.false ∙ rw none at i.2))

pub job_from-past-requires : goal.job_from-past-requires
job_from-past-requires c = (job_whole _ _ _ c.in_ok-due.ensures c.if-due-eq-GOAL.false).1

pub returns-in_err-validate_job : goal.returns-in_err-validate_job
returns-in_err-validate_job c =
    let i = c.loop-due.invariant.1 in
    let more : max_jobs - c.loop-due.jobs ≡ suc (max_jobs - (c.loop-due.jobs + 1)) = omega (arith, c.if-jobs-eq-MAX_JOBS.false) in
    let bad = c.in_err-validate_job.ensures ∙ ap (validated_job _ _) (ap (λ p. p.value) c.job_from-past.ensures) in
    passed_on _ _ c.from_residual-in_err-validate_job.ensures
    (ap headed (jobs_bad _ _ i.0 _ _ c.in_ok-due.ensures c.if-due-eq-GOAL.false (max_jobs - (c.loop-due.jobs + 1)) _ _ bad ∙ rw more at i.2))

pub loop-due-preserved : goal.loop-due-preserved
loop-due-preserved c =
    let i = c.loop-due.invariant.1 in
    let js = i.0 in
    let j = c.job_from-past.result.job in
    let more : max_jobs - c.loop-due.jobs ≡ suc (max_jobs - (c.loop-due.jobs + 1)) = omega (arith, c.if-jobs-eq-MAX_JOBS.false) in
    let sound = c.in_ok-validate_job.ensures ∙ ap (validated_job _ _) (ap (λ p. p.value) c.job_from-past.ensures) in (
      omega (arith, c.if-jobs-eq-MAX_JOBS.false),
      (
        js ++ (j ∷ []),
        (omega (arith, length-append js (j ∷ []), i.1.0), pair_snoc js j ∙ ap (λ (p : Bool). p || j.paired) i.1.1 ∙ sym c.with_pair-paired.ensures),
        jobs_more _ _ js _ _ c.in_ok-due.ensures c.if-due-eq-GOAL.false (max_jobs - (c.loop-due.jobs + 1)) j sound ∙ rw more at i.2,
      ),
    )
