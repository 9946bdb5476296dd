-- `team_planner::team_for` meets its contract: the table first, then the licences, then the start.
use Rattle.std.proofs.Common.{sym, ap, ◌∙◌}
use Rattle.refusal.specs.Checked.{accepted}
use Rattle.refusal.specs.CheckedLaws.{passed_on}
use Rattle.reading.specs.Reading.{checked_start}
use Rattle.licences.specs.Licences.{checked_licences}
use Rattle.table.specs.declared.Header.{Header}
use Rattle.table.specs.Read.{read_table, headed}
use Rattle.table.proofs.ReadLaws.{headed_sound, headed_refused}
use Rattle.team_planner.proofs.TeamLaws.{team_refused, licences_bad, start_bad, start_passed}
use Rattle.team_planner.proofs.team_for.Goals as goal

pub returns-in_err-header : goal.returns-in_err-header
returns-in_err-header c = passed_on _ _ c.from_residual.ensures (ap headed (team_refused _ _ _ _ _ (headed_refused (read_table _) c.in_err-header.ensures)))

pub returns-in_err-check_licences : goal.returns-in_err-check_licences
returns-in_err-check_licences c =
    let t = headed_sound (read_table _) c.in_ok-header.ensures in
    let bad = c.in_err-check_licences.ensures ∙ ap (λ (h : Header). checked_licences h.jobs c.args.licences.now) (sym t.2) in
    passed_on _ _ c.from_residual-in_err-check_licences.ensures (ap headed (licences_bad _ c.args.licences.now _ t.0 t.1 bad))

pub returns-in_err-check_start : goal.returns-in_err-check_start
returns-in_err-check_start c =
    let t = headed_sound (read_table _) c.in_ok-header.ensures in
    let passed = c.in_ok-check_licences.ensures ∙ ap (λ (h : Header). checked_licences h.jobs c.args.licences.now) (sym t.2) in
    let bad = c.in_err-check_start.ensures ∙ ap (λ (h : Header). checked_start h.facts c.args.start) (sym t.2) in
    passed_on _ _ c.from_residual-in_err-check_start.ensures (ap headed (start_bad _ _ _ t.0 t.1 passed bad))

pub returns : goal.returns
returns c =
    let t = headed_sound (read_table _) c.in_ok-header.ensures in
    let passed = c.in_ok-check_licences.ensures ∙ ap (λ (h : Header). checked_licences h.jobs c.args.licences.now) (sym t.2) in
    let good = c.in_ok-check_start.ensures ∙ ap (λ (h : Header). checked_start h.facts c.args.start) (sym t.2) in
    ap accepted (sym t.2) ∙ ap headed (start_passed _ _ _ t.0 t.1 passed good)
