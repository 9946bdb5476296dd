-- `plan_text::put_line` meets its contract: one part after another.
use Rattle.text_fields.specs.PutLaws.{put_then}
use Rattle.plan_text.proofs.put_line.Goals as goal

pub returns : goal.returns
returns c =
    put_then c.put_bytes-at.ensures (put_then c.put_next-at.ensures (put_then c.put_next-at-2.ensures c.put_byte.ensures))
