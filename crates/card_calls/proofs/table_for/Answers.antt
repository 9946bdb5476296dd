-- The reader's answer stands, unless it is a table and the reading is not sound under it.
use Rattle.std.proofs.Common.{sym, ap, ◌∙◌}
use Rattle.refusal.specs.Checked.{accepted}
use Rattle.refusal.specs.CheckedLaws.{passed_on}
use Rattle.reading.specs.Reading.{checked_at}
use Rattle.table.specs.declared.Header.{Header}
use Rattle.table.specs.Read.{read_table, headed}
use Rattle.table.proofs.ReadLaws.{headed_refused, headed_sound}
use Rattle.card_calls.specs.CallLaws.{for_refused, for_sound, for_bad}
use Rattle.card_calls.proofs.table_for.Goals as goal

pub returns-in_err-header : goal.returns-in_err-header
returns-in_err-header c = passed_on _ _ c.from_residual.ensures (ap headed (for_refused _ _ _ (headed_refused (read_table _) c.in_err-header.ensures)))

pub returns-in_err-check_reading : goal.returns-in_err-check_reading
returns-in_err-check_reading c =
    let t = headed_sound (read_table _) c.in_ok-header.ensures in
    let bad = c.in_err-check_reading.ensures ∙ ap (λ (h : Header). checked_at h.facts c.args.place c.args.reading) (sym t.2) in
    passed_on _ _ c.from_residual-in_err-check_reading.ensures (ap headed (for_bad _ _ _ t.0 t.1 bad))

pub returns : goal.returns
returns c =
    let t = headed_sound (read_table _) c.in_ok-header.ensures in
    let good = c.in_ok-check_reading.ensures ∙ ap (λ (h : Header). checked_at h.facts c.args.place c.args.reading) (sym t.2) in
    ap accepted (sym t.2) ∙ ap headed (for_sound _ _ _ t.0 t.1 good)
