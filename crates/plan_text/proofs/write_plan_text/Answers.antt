-- `plan_text::write_plan_text` meets its contract: one part after another, from the beginning.
use Rattle.std.proofs.Common.{◌≡◌, arith}
use Rattle.text_fields.specs.PutLaws.{put_then}
use Rattle.plan_text.specs.Text.{plan_text}
use Rattle.plan_text.specs.Writes.{listed}
use Rattle.plan_text.specs.WriteLaws.{put_wrote}
use Rattle.plan_text.proofs.write_plan_text.Goals as goal

pub returns : goal.returns
unfolding plan_text
returns c =
    let a = c.args in
    let all : c.min-listed.result ≡ listed a.entries a.conditions.now a.actions.now a.parents.now a.depths.now = omega arith in
    let entries = rw (c.with_absences-n.ensures, all) at c.put_entries-at.ensures in
    put_wrote (put_then c.put_line-at.ensures (put_then entries c.put_line.ensures))
