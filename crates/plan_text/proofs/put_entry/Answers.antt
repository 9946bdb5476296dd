-- `plan_text::put_entry` meets its contract: one part after another.
use Rattle.text_fields.specs.PutLaws.{put_then}
use Rattle.plan_text.proofs.put_entry.Goals as goal

pub returns : goal.returns
returns c =
    put_then c.put_decimal-at.ensures
    (put_then c.put_byte-at.ensures
    (put_then c.put_condition-at.ensures
    (put_then c.put_byte-at-2.ensures
    (put_then c.put_job-at.ensures
    (put_then c.put_next-at.ensures (put_then c.put_next-at-2.ensures c.put_byte.ensures))))))
