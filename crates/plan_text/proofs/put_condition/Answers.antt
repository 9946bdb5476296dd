-- `plan_text::put_condition` meets its contract: one mask, and of a paired list the second after it.
use Rattle.text_fields.specs.PutLaws.{put_then}
use Rattle.plan_text.proofs.put_condition.Goals as goal

pub returns-then-not-paired : goal.returns-then-not-paired
returns-then-not-paired c = rw c.if-not-paired.true c.put_mask-at.ensures

pub returns : goal.returns
returns c = rw c.if-not-paired.false (put_then c.put_mask-at.ensures (put_then c.put_byte-at.ensures c.put_mask.ensures))
