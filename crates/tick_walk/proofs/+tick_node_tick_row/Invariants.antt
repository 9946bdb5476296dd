-- Between the two the bytes left fall, and in the row's loop the children left. The loop's invariant: what is left of the row gives the whole of it.
use Rattle.std.proofs.Common.{◌≡◌, ◌+◌, ◌-◌, ◌*◌, length}
use Rattle.tree.specs.Tick.{kind_index}
use Rattle.tree.specs.declared.Kind.{Kind}
use Rattle.tick_walk.specs.Walk.{RowLeft}
use Rattle.tick_walk.proofs.+tick_node_tick_row.Given as goal

abbrev pub decreases-tick_node : goal.decreases-tick_node
decreases-tick_node l = (length l.tree.now - l.at) * 2

abbrev pub decreases-tick_row : goal.decreases-tick_row
decreases-tick_row l = (length l.tree.now - l.first) * 2 + 1

abbrev pub invariant-tick_row-loop : goal.invariant-tick_row-loop
invariant-tick_row-loop l =
    (kind : Kind) → l.row ≡ kind_index kind → RowLeft l.rows l.tree l.context kind l.depth l.first l.count l.live l.at (l.count - l.counter) l.going l.answer
