-- `distances::states_of` meets its contract: nothing is shifted out.
use native.Mathlib.Omega.{arith}
use native.Mathlib.Nat.{one-mul}
use mathlib.Core.Path.{◌∙◌}
use lib.Pow.{shl_exact}
use Rattle.distances.proofs.states_of.Goals as goal

pub returns : goal.returns
returns c = shl_exact 1 c.args.facts 64 (omega arith) (omega (arith, c.requires)) ∙ one-mul _
