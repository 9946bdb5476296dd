-- `tick_walk::tick_leaf` meets its contract: too deep, out of range, or the leaf's answer.
use Rattle.std.proofs.Common.{sym, ◌∙◌, lt-ltb, le-ltb}
use Rattle.tree.specs.ReadTree.{max_depth}
use Rattle.tick_walk.specs.Walk.{walk_leaf}
use Rattle.tick_walk.proofs.tick_leaf.Goals as goal

pub returns-then-depth-gt-MAX_DEPTH : goal.returns-then-depth-gt-MAX_DEPTH
unfolding walk_leaf
returns-then-depth-gt-MAX_DEPTH c =
    let deep = lt-ltb max_depth _ c.if-depth-gt-MAX_DEPTH.true in
    rw (c.at.ensures, deep)

pub returns-then-not-fits : goal.returns-then-not-fits
unfolding walk_leaf
returns-then-not-fits c =
    let level = le-ltb max_depth _ c.if-depth-gt-MAX_DEPTH.false in
    let out = sym c.is_in_range-fits.ensures ∙ c.if-not-fits.true in
    rw (c.at-then-not-fits.ensures, level, out)

pub returns : goal.returns
unfolding walk_leaf
returns c =
    let level = le-ltb max_depth _ c.if-depth-gt-MAX_DEPTH.false in
    let fits = sym c.is_in_range-fits.ensures ∙ c.if-not-fits.false in
    rw (c.pass.ensures, level, fits, c.answer-answer.ensures)
