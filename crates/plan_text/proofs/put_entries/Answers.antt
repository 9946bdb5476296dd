-- `plan_text::put_entries` meets its contract.
use Rattle.std.proofs.Common.{arith}
use Rattle.planning.specs.Columns.{entry_at}
use Rattle.text_fields.specs.PutLaws.{put_none}
use Rattle.plan_text.specs.Text.{entries_text}
use Rattle.plan_text.specs.WriteLaws.{put_entry}
use Rattle.plan_text.proofs.put_entries.Goals as goal

pub loop-i-init : goal.loop-i-init
unfolding entries_text
loop-i-init c = put_none _ _ _ (omega arith)

pub loop-i-preserved : goal.loop-i-preserved
loop-i-preserved c =
    let a = c.args in
    put_entry a.paired (entry_at a.conditions.now a.absences.now a.actions.now a.parents.now a.depths.now) _ c.loop-i.invariant
    (rw c.condition_at-condition.ensures at c.put_entry-next.ensures)
