-- `planner::plan` meets its contract: each check of the code is the definition's, in its order, and every plan keeps its promises.
use Rattle.std.proofs.Common.{ℕ, List, ◌≡◌, sym, ap, ◌∙◌}
use Rattle.std.proofs.Math.Path.{refl}
use Rattle.refusal.specs.Checked.{accepted, answer_of}
use Rattle.refusal.specs.CheckedLaws.{passed_on}
use Rattle.reading.specs.declared.Reading.{Reading}
use Rattle.table.specs.declared.Header.{Header}
use Rattle.table.specs.Table.{Table}
use Rattle.table.specs.Read.{read_table, headed}
use Rattle.table.proofs.ReadLaws.{headed_sound, headed_refused}
use Rattle.builder.specs.PlanLaws.{writes_nothing}
use Rattle.planner.specs.Plan.{start_for}
use Rattle.planner.specs.PlanLaws.{start_table, plan_refused, plan_traced, plan_stopped, plan_built}
use Rattle.planner.specs.PromiseLaws.{plan_kept}
use Rattle.planner.proofs.plan.Goals as goal

-- the table, where the checks passed
record Started (bytes : List ℕ) (start : Reading) (h : Header) : Type 0 where
  table : Table
  is_start : accepted table ≡ start_for bytes start
  was_read : accepted table ≡ read_table bytes
  has_header : accepted h ≡ headed (read_table bytes)

started : {bytes : List ℕ} {start : Reading} {h : Header} → accepted h ≡ headed (start_for bytes start) → Started bytes start h
started {bytes} {start} e =
    let t = headed_sound (start_for bytes start) e in
    let read = sym (start_table bytes start t.0 (sym t.1)) in
    record { table = t.0; is_start = t.1; was_read = read; has_header = ap accepted (sym t.2) ∙ ap headed read }

pub build-requires : goal.build-requires
build-requires c = (started c.in_ok-header.ensures).has_header

pub summarize-requires : goal.summarize-requires
summarize-requires c =
    let s = started c.in_ok-header.ensures in (
      s.has_header,
      rw (← s.was_read) (plan_traced c.args.table.now c.args.start s.table s.is_start _ _ c.args.tree.now _ _ (c.build.ensures s.table s.was_read)
          _ (ap answer_of c.in_ok-size.was)),
    )

pub returns-in_err-header : goal.returns-in_err-header
returns-in_err-header c =
    plan_kept c.args.table.now (λ i. (c.type_inv.table i).fits) c.args.start _ _ _ _ _
    (rw (← plan_refused c.args.table.now c.args.start _ _ _ _ (headed_refused (start_for c.args.table.now c.args.start) c.in_err-header.ensures))
    (writes_nothing _ _ _ _ _ (passed_on _ _ c.from_residual.ensures refl)))

pub returns-in_err-size : goal.returns-in_err-size
returns-in_err-size c =
    let s = started c.in_ok-header.ensures in
    plan_kept c.args.table.now (λ i. (c.type_inv.table i).fits) c.args.start _ _ _ _ _
    (rw (passed_on _ _ c.from_residual-in_err-size.ensures refl)
    (plan_stopped c.args.table.now c.args.start s.table s.is_start _ _ c.args.tree.now _ _ (c.build.ensures s.table s.was_read) _ _ (ap answer_of c.in_err-size.was)))

pub returns : goal.returns
returns c =
    let s = started c.in_ok-header.ensures in
    plan_kept c.args.table.now (λ i. (c.type_inv.table i).fits) c.args.start _ _ _ _ _
    (plan_built c.args.table.now c.args.start s.table s.is_start _ _ c.args.tree.now _ _ (c.build.ensures s.table s.was_read)
    (λ i. (c.type_inv.table i).fits) _ (ap answer_of c.in_ok-size.was) _ (rw (← s.was_read) at c.summarize.ensures))
