-- `distance_sweeps::measure_states` meets its contract. The loop's invariant: the row is of the level of the sweeps done, and where the last one changed
-- nothing no action leads nearer. The measure is the sweeps that the number of states leaves.
use Prim.Native.Nat.{ℕ, ◌-◌, ◌≤◌, ◌<◌}
use mathlib.Core.Path.{◌≡◌}
use mathlib.Core.Bool.{true, false}
use lib.ListN.{length}
use Rattle.conditions.specs.Condition.{plain}
use Rattle.expander.specs.Expands.{actions_in}
use Rattle.distance_steps.specs.Distance.{no_distance}
use Rattle.distance_steps.specs.Steps.{label_of}
use Rattle.distance_sweeps.specs.Sweeps.{Level, ClosedAt}
use Rattle.distance_sweeps.proofs.measure_states.Given as goal

abbrev pub invariant-loop-changed : goal.invariant-loop-changed
invariant-loop-changed l =
    (l.done ≤ length l.row)
    × (l.changed ≡ true → l.done < length l.row)
    × ((s : ℕ) → label_of l.row s ≤ no_distance)
    × Level (actions_in l.actions) (plain l.goal) l.done l.row
    × (l.changed ≡ false → (s : ℕ) → s < length l.row → ClosedAt (actions_in l.actions) (plain l.goal) l.row s)

abbrev pub decreases-loop-changed : goal.decreases-loop-changed
decreases-loop-changed l = length l.initial.row - l.done
