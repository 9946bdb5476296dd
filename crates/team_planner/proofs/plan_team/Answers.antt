-- `team_planner::plan_team` meets its contract: each check of the code is the definition's, in its order, and every plan keeps its promises.
use Rattle.std.proofs.Common.{ℕ, List, ◌≡◌, sym, ap, ◌∙◌}
use Rattle.std.proofs.Math.Path.{refl}
use Rattle.refusal.specs.Checked.{accepted, answer_of}
use Rattle.refusal.specs.CheckedLaws.{passed_on}
use Rattle.reading.specs.declared.Reading.{Reading}
use Rattle.table.specs.declared.Header.{Header}
use Rattle.table.specs.Table.{Table}
use Rattle.table.specs.Read.{read_table, headed}
use Rattle.table.proofs.ReadLaws.{headed_sound, headed_refused}
use Rattle.builder.specs.RowLaws.{header_paired}
use Rattle.team_planner.specs.Team.{team_for}
use Rattle.team_planner.proofs.TeamLaws.{team_table, team_stopped, team_started, team_nothing, team_unended, team_built}
use Rattle.team_planner.proofs.PromiseLaws.{team_kept}
use Rattle.team_planner.proofs.plan_team.Goals as goal

-- the table, where the checks passed
record Started (bytes licences : List ℕ) (start : Reading) (h : Header) : Type 0 where
  table : Table
  is_team : accepted table ≡ team_for bytes licences start
  was_read : accepted table ≡ read_table bytes
  has_header : accepted h ≡ headed (read_table bytes)

started : {bytes licences : List ℕ} {start : Reading} {h : Header} → accepted h ≡ headed (team_for bytes licences start) → Started bytes licences start h
started {bytes} {licences} {start} e =
    let t = headed_sound (team_for bytes licences start) e in
    let read = sym (team_table bytes licences start t.0 (sym t.1)) in
    record { table = t.0; is_team = t.1; was_read = read; has_header = ap accepted (sym t.2) ∙ ap headed read }

pub list_goal-requires : goal.list_goal-requires
list_goal-requires c = (started c.in_ok-header.ensures).has_header

pub fit_trees-requires : goal.fit_trees-requires
fit_trees-requires c =
    let s = started c.in_ok-header.ensures in
    let S = (c.list_goal.ensures s.table s.was_read).list_stands _ (ap answer_of c.in_ok-n.was) in
    (S.some, S.few, S.in_actions)

pub returns-in_err-header : goal.returns-in_err-header
returns-in_err-header c =
    let a = c.args in
    team_kept a.table.now (λ i. (c.type_inv.table i).fits) a.licences.now a.start _ _ _ _ _
    (rw (← team_stopped a.table.now a.licences.now a.start _ _ _ _ (headed_refused (team_for a.table.now a.licences.now a.start) c.in_err-header.ensures))
    (team_nothing _ _ _ _ _ (passed_on _ _ c.from_residual.ensures refl)))

pub returns-in_err-n : goal.returns-in_err-n
returns-in_err-n c =
    let a = c.args in
    let s = started c.in_ok-header.ensures in
    team_kept a.table.now (λ i. (c.type_inv.table i).fits) a.licences.now a.start _ _ _ _ _
    (rw (← team_started a.table.now a.licences.now a.start _ _ s.table s.is_team)
    (team_unended a.licences.now (c.list_goal.ensures s.table s.was_read) _ _ _ _ (ap answer_of c.in_err-n.was) (passed_on _ _ c.from_residual-in_err-n.ensures refl)))

pub returns : goal.returns
returns c =
    let a = c.args in
    let s = started c.in_ok-header.ensures in
    let paired = header_paired a.table.now (λ i. (c.type_inv.table i).fits) c.in_ok-header.header s.has_header s.table s.was_read in
    team_kept a.table.now (λ i. (c.type_inv.table i).fits) a.licences.now a.start _ _ _ _ _
    (rw (← team_started a.table.now a.licences.now a.start _ _ s.table s.is_team)
    (team_built a.licences.now (c.list_goal.ensures s.table s.was_read) _ _ _ (ap answer_of c.in_ok-n.was) _ (rw paired at c.fit_trees.ensures)))
