-- The loop's invariant: the bytes from i on are judged, and the facts that they send to are known.
use Rattle.fact_map.specs.CarryLaws.{JudgedFrom}
use Rattle.fact_map.proofs.check_map.Given as goal

abbrev pub invariant-loop-i : goal.invariant-loop-i
invariant-loop-i l = JudgedFrom l.new l.map l.i l.taken
