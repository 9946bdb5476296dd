-- The distance of a state: document 02, W13, "for each state the fewest jobs to the goal, or 65,535 for none".
-- Definitions only.
use Rattle.std.specs.Prelude.{◌≡◌, List, ℕ, ◌<◌, length}
use Rattle.planning.specs.Domain.{Domain}
use Rattle.planning.specs.Sequence.{Reaches, Shortest}

-- "or 65,535 for none"
abbrev pub no_distance : ℕ
no_distance = 65535

-- The number n stands for the distance of the state s: a sequence of n actions reaches the goal and none that does is shorter, or none does.
pub data Distance {State Condition Action : Type 0} (D : Domain State Condition Action) (s : State) (n : ℕ) : Type 0 where
  fewest : (w : List Action) → Shortest D length s w → length w ≡ n → n < no_distance → Distance D s n
  none : ((w : List Action) → Reaches D s w → ⊥) → n ≡ no_distance → Distance D s n
