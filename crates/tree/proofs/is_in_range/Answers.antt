-- `tree::is_in_range` meets its contract, by the kind of leaf.
use Rattle.tree.proofs.is_in_range.Goals as goal

pub returns-in-Condition : goal.returns-in-Condition
returns-in-Condition c = rw c.in-Condition.is c.is_within.ensures

pub returns-in-Action : goal.returns-in-Action
returns-in-Action c = rw c.in-Action.is

pub returns-in-Wait : goal.returns-in-Wait
returns-in-Wait c = rw c.in-Wait.is
