-- The loops run through the definition: at the head of each, what remains of it gives the plan (proofs/Loops.antt). So the way out by which
-- the function returns is the outcome of the plan, and the tables hold its list.
use Prim.Native.Nat.{◌-◌}
use Rattle.conditions.specs.Condition.{plain}
use Rattle.expander.specs.Expands.{actions_for, columns, ended_by}
use Rattle.expander.proofs.Loops.{AtEntry, AtAction}
use Rattle.expander.proofs.expand.Given as goal

abbrev pub invariant-actions : goal.invariant-actions
invariant-actions l =
    AtAction l.paired (actions_for l.paired l.jobs) (plain l.goal) (ended_by l.until) l.capacity
    (columns l.initial.conditions l.initial.absences l.initial.actions l.initial.parents l.initial.depths) l.initial.n l.e l.condition l.depth
    (columns l.conditions l.absences l.actions l.parents l.depths) l.n l.a

abbrev pub invariant-entries : goal.invariant-entries
invariant-entries l =
    AtEntry l.paired (actions_for l.paired l.jobs) (plain l.goal) (ended_by l.until) l.capacity
    (columns l.initial.conditions l.initial.absences l.initial.actions l.initial.parents l.initial.depths) l.initial.n
    (columns l.conditions l.absences l.actions l.parents l.depths) l.n l.e

abbrev pub decreases-entries : goal.decreases-entries
decreases-entries l = l.capacity - l.e
