-- `distance_sweeps::sweep` meets its contract. The loop's invariant: the sweep came down to the state s. The measure is the states left.
use Rattle.conditions.specs.declared.Condition.{Condition}
use Rattle.expander.specs.Expands.{actions_in}
use Rattle.distance_sweeps.specs.Sweeps.{Level, SweptTo}
use Rattle.distance_sweeps.proofs.sweep.Given as goal

abbrev pub invariant-loop-s : goal.invariant-loop-s
invariant-loop-s l =
    (goal : Condition) → Level (actions_in l.actions) goal l.done l.initial.row → SweptTo (actions_in l.actions) goal l.done l.s l.initial.row l.row l.changed
