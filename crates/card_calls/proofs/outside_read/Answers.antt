-- After the checks of the table and the reading nothing is left to judge.
use Rattle.table.proofs.ReadLaws.{headed_refused, headed_sound}
use Rattle.card.specs.CardLaws.{updated_refused, updated_accepted}
use Rattle.card_calls.specs.Calls.{table_for}
use Rattle.card_calls.specs.CallLaws.{outside_refused, outside_done}
use Rattle.card_calls.proofs.outside_read.Goals as goal

pub returns-in-Err : goal.returns-in-Err
returns-in-Err c = rw c.refuse.ensures (updated_refused (outside_refused _ _ _ (headed_refused (table_for _ 0 _) c.in-Err.ensures)))

pub returns-in-Ok : goal.returns-in-Ok
returns-in-Ok c =
    let t = headed_sound (table_for _ 0 _) c.in-Ok.ensures in
    rw (c.accept.ensures, c.with_masks.ensures) (updated_accepted (outside_done _ _ _ t.1))
