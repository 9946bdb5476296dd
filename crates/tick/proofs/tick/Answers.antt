-- `tick::tick` meets its contract. The table is read first.
use Rattle.refusal.specs.CheckedLaws.{passed_on}
use Rattle.tick.specs.AnswersLaws.{answers_refused, answers_read}
use Rattle.std.proofs.Math.Path.{refl}
use Rattle.tick.proofs.tick.Goals as goal

pub returns-in_err-header : goal.returns-in_err-header
returns-in_err-header c =
    answers_refused _ _ _ _ _ _ c.in_err-header.ensures (passed_on _ _ c.from_residual.ensures refl)

pub returns : goal.returns
returns c = answers_read _ _ _ _ _ c.in_ok-header.ensures c.tick_checked.ensures
