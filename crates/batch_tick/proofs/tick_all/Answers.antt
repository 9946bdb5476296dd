-- `batch_tick::tick_all` meets its contract.
use Rattle.std.proofs.Common.{◌≡◌, arith}
use Rattle.std.proofs.lemmas.Grind.{common_steps}
use Rattle.refusal.specs.Checked.{answer_of, refused_by}
use Rattle.batch_tick.specs.BatchTickLaws.{ticks_refused, ticks_read}
use Rattle.batch_tick.proofs.tick_all.Goals as goal

pub returns-in_err-header : goal.returns-in_err-header
returns-in_err-header c =
    let told : answer_of c.from_residual.result ≡ refused_by c.in_err-header.field-0.0 = grind (arith, common_steps) in
    rw told (ticks_refused _ _ _ _ _ _ _ _ _ c.in_err-header.ensures _)

pub returns : goal.returns
returns c = ticks_read _ _ _ _ _ _ _ (λ i. (c.type_inv.table i).fits) c.in_ok-header.header c.in_ok-header.ensures c.tick_under.ensures
