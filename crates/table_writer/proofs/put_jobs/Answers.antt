-- Each turn stores a row's job where the one before it ends.
use Rattle.table_writer.specs.WriteLaws.{none_stored, row_stored, stored_all}
use Rattle.table_writer.proofs.put_jobs.Goals as goal

pub loop-i-init : goal.loop-i-init
loop-i-init c = none_stored _ _

pub loop-i-preserved : goal.loop-i-preserved
loop-i-preserved c = row_stored c.loop-i.invariant c.loop-i-test.true _ c.row.ensures _ c.put_job-at.ensures.0 _ c.put_job-at.ensures.1

pub returns : goal.returns
returns c = stored_all c.loop-i.invariant c.loop-i-test.false
