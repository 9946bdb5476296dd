-- `team_planner::size_for` meets its contract: the tree's size is counted by those of its leaves.
use mathlib.Core.List.{[]}
use Rattle.base.specs.Lists.{length_prefix}
use Rattle.licences.specs.Licences.{owned_by}
use Rattle.planning.specs.Columns.{entry_at}
use Rattle.flat.specs.TreeBytes.{tree_entries}
use Rattle.team_planner.proofs.size_for.Goals as goal

pub tree_size-requires : goal.tree_size-requires
tree_size-requires c = let p = c.requires in (p.0, p.1, c.leaves_size-leaves.ensures.0)

pub returns : goal.returns
returns c = λ conditions absences.
    let a = c.args in
    c.tree_size.ensures (owned_by a.owner) (tree_entries conditions absences a.actions.now a.n)
    (length_prefix (entry_at conditions absences a.actions.now [] []) a.n) (c.leaves_size-leaves.ensures.1 conditions absences)
