-- `tree::answer` meets its contract, by the kind of leaf.
use Rattle.tree.specs.Tick.{status_of}
use mathlib.Core.Path.{ap, ◌∙◌}
use Rattle.tree.proofs.answer.Goals as goal

pub returns-in-Condition : goal.returns-in-Condition
returns-in-Condition c = rw c.in-Condition.is (c.status_of.ensures ∙ ap status_of c.evaluate.ensures)

pub returns-in-Action : goal.returns-in-Action
returns-in-Action c = rw c.in-Action.is

pub returns-in-Wait : goal.returns-in-Wait
returns-in-Wait c = rw c.in-Wait.is
