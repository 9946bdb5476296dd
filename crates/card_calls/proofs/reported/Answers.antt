-- The checks of the table and of the card's masks, then the job's number; what is left is booked.
use Rattle.std.proofs.Common.{ℕ, List, ◌≡◌, sym, ap, ◌∙◌}
use Rattle.refusal.specs.Checked.{accepted}
use Rattle.reading.specs.declared.Reading.{Reading}
use Rattle.table.specs.declared.Header.{Header}
use Rattle.table.specs.Table.{Table}
use Rattle.table.specs.Read.{read_table, header_of, headed}
use Rattle.table.proofs.ReadLaws.{headed_refused, headed_sound}
use Rattle.card.specs.CardLaws.{updated_refused}
use Rattle.card_calls.specs.Calls.{table_for}
use Rattle.card_calls.specs.CallLaws.{for_told, report_refused, report_no_job, report_job}
use Rattle.card_calls.proofs.reported.Goals as goal

-- the table, where it was read and the card's masks are sound under it
record TableTold (s : List ℕ) (masks : Reading) (h : Header) : Type 0 where
  table : Table
  is_table : accepted table ≡ table_for s 0 masks
  was_read : accepted table ≡ read_table s
  has_header : header_of table ≡ h

table_told : {s : List ℕ} {masks : Reading} {h : Header} → accepted h ≡ headed (table_for s 0 masks) → TableTold s masks h
table_told {s} {masks} e =
    let t = headed_sound (table_for s 0 masks) e in
    record { table = t.0; is_table = t.1; was_read = (for_told s 0 masks t.0 t.1).0; has_header = t.2 }

pub named_job-requires : goal.named_job-requires
named_job-requires c =
    let t = table_told (rw c.masks_of-masks.ensures at c.in-Ok.ensures) in
    ap accepted (sym t.has_header) ∙ ap headed t.was_read

pub returns-in-Err : goal.returns-in-Err
returns-in-Err c =
    let e = rw c.masks_of-masks.ensures at c.in-Err.ensures in
    rw c.refuse.ensures (updated_refused (report_refused _ _ _ (headed_refused (table_for _ 0 _) e)))

pub returns-in-Err-named_job : goal.returns-in-Err-named_job
returns-in-Err-named_job c =
    let t = table_told (rw c.masks_of-masks.ensures at c.in-Ok.ensures) in
    rw c.refuse-in-Err-named_job.ensures (updated_refused (report_no_job _ _ _ t.table t.is_table (c.in-Err-named_job.ensures t.table t.was_read)))

pub returns-in-Ok-named_job : goal.returns-in-Ok-named_job
returns-in-Ok-named_job c =
    let t = table_told (rw c.masks_of-masks.ensures at c.in-Ok.ensures) in
    rw (report_job _ c.args.report c.args.card t.table t.is_table (c.in-Ok-named_job.ensures t.table t.was_read)) at c.book.ensures
