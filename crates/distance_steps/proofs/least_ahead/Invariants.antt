-- `distance_steps::least_ahead` meets its contract. The loop's invariant: the least of the actions passed.
use Rattle.expander.specs.Expands.{actions_in}
use Rattle.distance_steps.specs.Steps.{LeastBelow}
use Rattle.distance_steps.proofs.least_ahead.Given as goal

abbrev pub invariant-loop-action : goal.invariant-loop-action
invariant-loop-action l = LeastBelow (actions_in l.actions) l.row l.s l.action-index l.best
