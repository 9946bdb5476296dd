-- `fact_map::check_map` meets its contract.
use Rattle.std.proofs.Common.{◌-◌, sym, ◌∙◌, arith}
use Rattle.std.proofs.lemmas.Grind.{common_steps}
use Rattle.fact_map.specs.CarryLaws.{judged_none, judged_next, judged_not}
use Rattle.fact_map.specs.FactMapLaws.{other_length, map_none, map_sound}
use Rattle.fact_map.proofs.check_map.Goals as goal

pub returns-then-map-old : goal.returns-then-map-old
returns-then-map-old c = grind (arith, common_steps, other_length)

pub loop-i-init : goal.loop-i-init
loop-i-init c = judged_none c.args.new c.args.map.now

pub returns-then-not-is_free : goal.returns-then-not-is_free
returns-then-not-is_free c =
    let bad = judged_not c.args.new c.args.map.now c.requires c.loop-i.i (c.loop-i.i - 1) c.loop-i.taken (omega arith) (omega arith) c.loop-i.invariant (sym c.is_free.ensures ∙ c.if-not-is_free.true) in
    rw c.at-then-not-is_free.ensures (map_none c.args.old c.args.new c.args.map.now c.if-map-old.false bad)

pub loop-i-preserved : goal.loop-i-preserved
loop-i-preserved c =
    rw (c.join-taken.ensures, c.only.ensures)
    (judged_next c.args.new c.args.map.now c.requires c.loop-i.i (c.loop-i.i - 1) c.loop-i.taken (omega arith) (omega arith) c.loop-i.invariant (sym c.is_free.ensures ∙ c.if-not-is_free.false))

pub returns : goal.returns
returns c = grind (arith, common_steps, map_sound)
