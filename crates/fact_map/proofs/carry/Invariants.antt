-- The loop's invariant: what was sent, with what goes from here on of the facts that are left, is all that goes.
use Rattle.std.proofs.Common.{◌≡◌, drop}
use Rattle.masks.specs.Sets.{union}
use Rattle.fact_map.specs.Carry.{carried}
use Rattle.fact_map.proofs.carry.Given as goal

abbrev pub invariant-loop-to : goal.invariant-loop-to
invariant-loop-to l = union l.sent (carried (drop l.to-index l.map) l.left) ≡ carried l.map l.set
