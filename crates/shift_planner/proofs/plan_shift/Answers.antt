-- `shift_planner::plan_shift` meets its contract: the table's own stops first, then the list that nothing ends, and every such plan keeps its promises.
use Rattle.std.proofs.Math.Path.{refl}
use Rattle.refusal.specs.CheckedLaws.{passed_on}
use Rattle.table.specs.Read.{read_table}
use Rattle.table.proofs.ReadLaws.{headed_sound, headed_refused}
use Rattle.builder.specs.PlanLaws.{writes_nothing}
use Rattle.shift_planner.specs.ShiftLaws.{shift_refused, shift_read, shift_kept}
use Rattle.shift_planner.proofs.plan_shift.Goals as goal

pub build-requires : goal.build-requires
build-requires c = c.in_ok-header.ensures

pub returns-in_err-header : goal.returns-in_err-header
returns-in_err-header c =
    shift_kept c.args.table.now (λ i. (c.type_inv.table i).fits) _ _ _ _ _
    (rw (← shift_refused c.args.table.now _ _ _ _ (headed_refused (read_table c.args.table.now) c.in_err-header.ensures))
    (writes_nothing _ _ _ _ _ (passed_on _ _ c.from_residual.ensures refl)))

pub returns : goal.returns
returns c =
    let t = headed_sound (read_table c.args.table.now) c.in_ok-header.ensures in
    shift_kept c.args.table.now (λ i. (c.type_inv.table i).fits) _ _ _ _ _
    (rw (← shift_read c.args.table.now _ _ t.0 t.1) (c.build.ensures t.0 t.1))
