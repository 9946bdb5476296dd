-- `distances::measure` meets its contract: the table's own stops first, then the row's, and then every state has its distance.
use Rattle.std.proofs.Common.{length, sym, ap, ◌∙◌}
use Rattle.std.proofs.Math.Path.{refl}
use Rattle.refusal.specs.CheckedLaws.{passed_on}
use Rattle.table.specs.declared.Header.{Header}
use Rattle.table.specs.Read.{read_table}
use Rattle.table.proofs.ReadLaws.{headed_sound, headed_refused}
use Rattle.distances.specs.Measure.{checked_row}
use Rattle.distances.specs.MeasureLaws.{row_fits, measures_table_bad, measures_row_bad, measures_all}
use Rattle.distances.proofs.measure.Goals as goal

pub measure_table-requires : goal.measure_table-requires
measure_table-requires c =
    let (t, read, same) = headed_sound (read_table c.args.table.now) c.in_ok-header.ensures in
    let told = c.in_ok-states.ensures ∙ ap (λ (h : Header). checked_row h.facts (length c.args.row.now)) (sym same) in
    let (few, size, states) = row_fits _ _ _ told in
    let facts = ap (λ (h : Header). h.facts) same in
    (c.in_ok-header.ensures, rw facts at few, rw facts at size)

pub returns-in_err-header : goal.returns-in_err-header
returns-in_err-header c =
    rw (passed_on _ _ c.from_residual.ensures refl)
    (measures_table_bad c.args.table.now _ _ _ (headed_refused (read_table c.args.table.now) c.in_err-header.ensures))

pub returns-in_err-states : goal.returns-in_err-states
returns-in_err-states c =
    let (t, read, same) = headed_sound (read_table c.args.table.now) c.in_ok-header.ensures in
    let bad = c.in_err-states.ensures ∙ ap (λ (h : Header). checked_row h.facts (length c.args.row.now)) (sym same) in
    rw (passed_on _ _ c.from_residual-in_err-states.ensures refl) (measures_row_bad c.args.table.now _ t read _ _ _ refl bad)

pub returns : goal.returns
returns c =
    let (t, read, same) = headed_sound (read_table c.args.table.now) c.in_ok-header.ensures in
    let told = c.in_ok-states.ensures ∙ ap (λ (h : Header). checked_row h.facts (length c.args.row.now)) (sym same) in
    measures_all c.args.table.now _ t read (λ i. (c.type_inv.table i).fits) _ _ _ refl told (c.measure_table.ensures t read)
