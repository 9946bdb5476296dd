-- `table::read_job` meets its contract: the table is read first, then the number is looked at.
use Rattle.std.proofs.Common.{arith}
use Rattle.std.proofs.lemmas.Grind.{common_steps}
use Rattle.refusal.specs.CheckedLaws.{then_refused}
use Rattle.table.specs.Read.{read_table}
use Rattle.table.proofs.ReadLaws.{headed_refused, headed_sound}
use Rattle.table.proofs.read_job.Goals as goal

pub returns-in_err-header : goal.returns-in_err-header
returns-in_err-header c =
    let e = headed_refused (read_table _) c.in_err-header.ensures in
    grind (arith, common_steps, then_refused, e)

pub returns : goal.returns
returns c =
    let t = headed_sound (read_table _) c.in_ok-header.ensures in
    rw (← t.1) (c.named_job.ensures t.0 t.1)
