use mathlib.Core.Path.{sym}
use lib.Seq.{set_out}
use Rattle.conditions.proofs.set_mask.Goals as goal

pub returns-else-i-column : goal.returns-else-i-column
returns-else-i-column c = sym (set_out _ _ _ c.if-i-column.false)
