-- `tree_shows::entries_shown` meets its contract.
use native.Mathlib.Omega.{arith}
use Rattle.tree_shows.proofs.entries_shown.Goals as goal

pub returns-then-later-ne0 : goal.returns-then-later-ne0
returns-then-later-ne0 c n h = omega (arith, h.some, h.few, h.size_is)

pub returns : goal.returns
returns c = record { no_pair = c.if-paired.false; some = omega arith; few = omega arith; size_is = omega arith }
