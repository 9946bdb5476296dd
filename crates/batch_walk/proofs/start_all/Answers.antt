-- `batch_walk::start_all` meets its contract.
use Rattle.std.proofs.Common.{◌≡◌, refl, ap, ◌∙◌, arith}
use Rattle.tree.specs.declared.Status.TheVariants.{Failure}
use Rattle.batch_walk.specs.Batch.{AnswerRows, answer_rows}
use Rattle.batch_walk.specs.Steps.{numbered, set_numbered}
use Rattle.batch_walk.specs.StepLaws.{rows_next}
use Rattle.batch_walk.proofs.start_all.Goals as goal

pub loop-v-init : goal.loop-v-init
loop-v-init c = refl

pub loop-v-preserved : goal.loop-v-preserved
loop-v-preserved c =
    let l = c.loop-v in
    let a = c.args in
    ap (λ (t : AnswerRows). set_numbered t l.v (numbered Failure)) l.invariant
    ∙ rows_next (λ i. numbered Failure) (answer_rows a.statuses.now a.values.now) l.v (omega (arith, c.loop-v-test.true, c.requires)) (omega (arith, c.loop-v-test.true, c.requires))
