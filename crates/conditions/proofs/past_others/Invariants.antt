-- `conditions::past_others` meets its contract: all that was passed has a fact that is not the mask's.
use Prim.Native.Nat.{◌≤◌}
use Rattle.conditions.specs.Search.{Sharing}
use Rattle.conditions.proofs.past_others.Given as goal

abbrev pub invariant-loop-k : goal.invariant-loop-k
invariant-loop-k l = (l.k ≤ l.n) × Sharing l.conditions l.others l.k l.n

abbrev pub decreases-loop-k : goal.decreases-loop-k
decreases-loop-k l = l.k
