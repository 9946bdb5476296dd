-- Each turn checks a row's job where the one before it would end.
use Rattle.std.proofs.Common.{arith}
use Rattle.table_writer.specs.WriteLaws.{none_passed, row_passed, passed_small}
use Rattle.table_writer.proofs.validate_table.Goals as goal

pub loop-i-init : goal.loop-i-init
loop-i-init c = none_passed _ _ _ c.if-not-facts_in_range.ensures

pub overflow_add-at : goal.overflow_add-at
overflow_add-at c =
    omega (arith, c.size_of-at.ensures, passed_small (row_passed c.loop-i.invariant c.loop-i-test.true c.if-i-eq-MAX_JOBS.false _ c.row-row.ensures c.in_ok-validate_job.ensures))

pub loop-i-preserved : goal.loop-i-preserved
loop-i-preserved c =
    rw c.size_of-at.ensures (row_passed c.loop-i.invariant c.loop-i-test.true c.if-i-eq-MAX_JOBS.false _ c.row-row.ensures c.in_ok-validate_job.ensures)
