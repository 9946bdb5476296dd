-- The checks are those of reading the bytes, and what is stored are the table's bytes.
use Rattle.std.proofs.Common.{arith, sym}
use Rattle.std.proofs.Math.ListN.{length-set}
use Rattle.table.specs.Table.{goal_offset}
use Rattle.table_writer.specs.WriteLaws.{even_told, placed_sound, columns_storable, table_written, wrote_uneven, wrote_unwritable, wrote_refused, wrote_short, wrote_whole}
use Rattle.table_writer.proofs.write_table.Goals as goal

pub returns-then-not-are_even : goal.returns-then-not-are_even
returns-then-not-are_even c = wrote_uneven _ _ _ _ (columns_storable _ _ _ c.args.columns.held c.ranges.goal.fits) (sym c.if-not-are_even.ensures)

pub first_unwritable-requires : goal.first_unwritable-requires
first_unwritable-requires c = even_told _ c.if-not-are_even.ensures

pub returns-in-Some : goal.returns-in-Some
returns-in-Some c = wrote_unwritable _ _ _ _ (columns_storable _ _ _ c.args.columns.held c.ranges.goal.fits) (sym c.if-not-are_even.ensures) _ (sym c.in-Some.ensures)

pub validate_table-requires : goal.validate_table-requires
validate_table-requires c = even_told _ c.if-not-are_even.ensures

pub returns-in_err-goal_at : goal.returns-in_err-goal_at
returns-in_err-goal_at c =
    wrote_refused _ _ _ _ (columns_storable _ _ _ c.args.columns.held c.ranges.goal.fits) (sym c.if-not-are_even.ensures) (sym c.in_default.ensures) _
    c.in_err-goal_at.ensures _ c.from_residual.ensures.1

pub overflow_add-size : goal.overflow_add-size
overflow_add-size c = omega (arith, (placed_sound _ _ c.in_ok-goal_at.ensures).is_small)

pub returns-then-out-size : goal.returns-then-out-size
returns-then-out-size c =
    wrote_short _ _ _ _ (columns_storable _ _ _ c.args.columns.held c.ranges.goal.fits) (sym c.if-not-are_even.ensures) (sym c.in_default.ensures) _ _
    (placed_sound _ _ c.in_ok-goal_at.ensures) (omega arith) c.if-out-size.true

pub overflow_cast-out : goal.overflow_cast-out
overflow_cast-out c = omega (arith, (placed_sound _ _ c.in_ok-goal_at.ensures).few_facts)

pub put_jobs-requires : goal.put_jobs-requires
unfolding goal_offset
put_jobs-requires c =
    (even_told _ c.if-not-are_even.ensures, simp length-set (omega (arith, (placed_sound _ _ c.in_ok-goal_at.ensures).is_place, c.if-out-size.false)))

pub returns : goal.returns
returns c =
    let passed = placed_sound _ _ c.in_ok-goal_at.ensures in
    wrote_whole _ _ _ _ (columns_storable _ _ _ c.args.columns.held c.ranges.goal.fits) (sym c.if-not-are_even.ensures) (sym c.in_default.ensures) _ _
    passed (omega arith) c.if-out-size.false _
    (table_written c.args.out.now _ _ _ _ _ passed.is_place (omega arith) c.if-out-size.false c.put_jobs.ensures c.put_goal.ensures)
