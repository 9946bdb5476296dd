-- `distance_steps::label_goal` meets its contract. The loop's invariant: the states passed have their first label.
use Rattle.std.proofs.Common.{◌≡◌}
use Rattle.base.specs.Lists.{overlay}
use Rattle.conditions.specs.Condition.{plain}
use Rattle.distance_steps.specs.Steps.{first_label}
use Rattle.distance_steps.proofs.label_goal.Given as goal

abbrev pub invariant-loop-s : goal.invariant-loop-s
invariant-loop-s l = l.row ≡ overlay (first_label (plain l.goal)) l.s l.initial.row
