-- `tick_walk::tick_node` and `tick_walk::tick_row` meet their contracts.
use Rattle.std.proofs.Common.{ℕ, ◌≡◌, ◌+◌, ◌-◌, ◌<◌, ◌≤◌, sym, ap, ◌∙◌, arith}
use Rattle.refusal.specs.CheckedLaws.{passed_on_by}
use Rattle.tree.specs.ReadTreeLaws.{node_onward}
use Rattle.tick_walk.specs.Walk.{walk_node, walk_of}
use Rattle.tick_walk.specs.WalkLaws.{node_malformed, node_leaf, node_deep, node_row, row_ends, row_stops, row_goes, row_keeps}
use Rattle.tick_walk.proofs.+tick_node_tick_row.Goals as goal
use Rattle.tick_walk.proofs.+tick_node_tick_row.Goals.{tick_row-After-branch-child, tick_row-in-Leaf, tick_row-in-Branch, tick_row-then-going, tick_row-else-going}

-- ---- a node

pub tick_node-returns-then-depth-gt-MAX_DEPTH : goal.tick_node-returns-then-depth-gt-MAX_DEPTH
tick_node-returns-then-depth-gt-MAX_DEPTH t c =
    let a = c.args in
    rw c.at.ensures (node_deep a.rows a.tree.now a.context a.at a.depth a.live _ _ _ c.requires c.if-depth-gt-MAX_DEPTH.true)

pub tick_node-tick_row-requires : goal.tick_node-tick_row-requires
tick_node-tick_row-requires t c = (omega (arith, node_onward c.args.tree.now c.args.at _ c.requires), tt)

pub tick_node-returns : goal.tick_node-returns
tick_node-returns t c = c.tick_row.ensures ∙ node_row _ _ _ _ _ _ _ _ _ c.requires c.if-depth-gt-MAX_DEPTH.false

-- ---- a row

-- what the walk over a child gives
walked : (t : ℕ) (c : tick_row-After-branch-child t) → walk_of c.match-branch-2.walked ≡ walk_node c.args.rows c.args.tree.now c.args.context c.loop.at c.args.depth c.loop.going
walked t c =
    elim c.match-branch-2.branch [
      | tick_row-in-Leaf w ↦
          ap walk_of w.walked-is ∙ w.tick_leaf-walked.ensures
          ∙ node_leaf c.args.rows c.args.tree.now c.args.context c.loop.at c.args.depth c.loop.going _ _ (rw w.in-Leaf.is at c.in_ok-leaf.ensures)
      | tick_row-in-Branch w ↦ ap walk_of w.walked-is ∙ w.tick_node-walked.ensures
    ]

pub tick_row-returns-in_err-leaf : goal.tick_row-returns-in_err-leaf
tick_row-returns-in_err-leaf t c =
    let a = c.args in
    let l = c.loop in
    let left : 0 < c.args.count - l.counter = omega arith in
    let bad = node_malformed a.rows a.tree.now a.context l.at a.depth l.going _ _ c.in_err-leaf.ensures in
    passed_on_by _ _ _ c.from_residual.ensures (row_stops _ _ _ _ _ _ _ _ _ _ _ _ (l.invariant a.kind c.kind_index-row.ensures.0) left _ bad)

pub tick_row-returns-in_err-child : goal.tick_row-returns-in_err-child
tick_row-returns-in_err-child t c =
    let left : 0 < c.args.count - c.loop.counter = omega arith in
    let bad = ap walk_of (sym c.in_err-child.was) ∙ walked t (goal.at.tick_row-returns-in_err-child t c).After-branch-child in
    passed_on_by _ _ _ c.from_residual-in_err-child.ensures (row_stops _ _ _ _ _ _ _ _ _ _ _ _ (c.loop.invariant c.args.kind c.kind_index-row.ensures.0) left _ bad)

pub tick_row-loop-preserved : goal.tick_row-loop-preserved
tick_row-loop-preserved t c =
    let left : 0 < c.args.count - c.loop.counter = omega arith in
    let fewer : c.args.count - c.loop.counter - 1 ≡ c.args.count - (c.loop.counter + 1) = omega arith in
    let is_child = ap walk_of (sym c.in_ok-child.was) ∙ walked t (goal.at.tick_row-loop-preserved t c).After-branch-child in
    λ kind e.
    elim c.if-going.branch [
      | tick_row-then-going w ↦
          rw fewer at (row_goes _ _ _ _ _ _ _ _ _ _ _ _ (c.loop.invariant kind e) left _ _ is_child c.if-going.going c.if-going.answer _ _
          w.if-going.true e w.status_index-status.ensures.0 w.going-is w.answer-is)
      | tick_row-else-going w ↦
          rw fewer at (row_keeps _ _ _ _ _ _ _ _ _ _ _ _ (c.loop.invariant kind e) left _ _ is_child c.if-going.going c.if-going.answer
          w.if-going.false w.going-is w.answer-is)
    ]

pub tick_row-returns : goal.tick_row-returns
tick_row-returns t c =
    let none : c.args.count - c.loop.counter ≤ 0 = omega arith in
    row_ends _ _ _ _ _ _ _ _ _ _ _ _ (c.loop.invariant c.args.kind c.kind_index-row.ensures.0) none
