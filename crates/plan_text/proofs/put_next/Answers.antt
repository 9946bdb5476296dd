-- `plan_text::put_next` meets its contract: one part after another.
use Rattle.text_fields.specs.PutLaws.{put_then}
use Rattle.plan_text.proofs.put_next.Goals as goal

pub returns : goal.returns
returns c = put_then c.put_byte-at.ensures c.put_decimal.ensures
