use mathlib.Core.Path.{sym}
use lib.ListN.{get_or-eq_default}
use Rattle.conditions.proofs.mask_at.Goals as goal

pub returns : goal.returns
returns c = sym (get_or-eq_default c.args.column.now 0 {n = c.args.i} c.if-i-column.false)
