-- `conditions::newest_weaker` meets its contract: what remains of the search gives the whole.
use mathlib.Core.Path.{◌≡◌}
use Prim.Native.Nat.{◌≤◌}
use Rattle.conditions.specs.Search.{newest_weaker}
use Rattle.conditions.proofs.newest_weaker.Given as goal

abbrev pub invariant-search : goal.invariant-search
invariant-search l = (l.k ≤ l.n) × (newest_weaker l.conditions l.absences l.k l.c ≡ newest_weaker l.conditions l.absences l.n l.c)

abbrev pub decreases-search : goal.decreases-search
decreases-search l = l.k
