-- `plan_text::write_refused_text` meets its contract.
use Rattle.plan_text.specs.WriteLaws.{put_wrote}
use Rattle.plan_text.specs.Text.{refused_text}
use Rattle.plan_text.proofs.write_refused_text.Goals as goal

pub returns : goal.returns
unfolding refused_text
returns c = put_wrote c.put_line.ensures
