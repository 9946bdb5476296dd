-- `fact_map::first_sent` meets its contract: the first fact of a set is its last digit.
use borrow.Author.Tests.{eq-eqb, ne_eqb}
use Prim.Native.Nat.{◌%◌}
use Rattle.fact_map.specs.Carry.{first_sent}
use Rattle.fact_map.proofs.first_sent.Goals as goal

pub returns-then-set-eq1 : goal.returns-then-set-eq1
unfolding first_sent
returns-then-set-eq1 c = rw (eq-eqb (c.before.before.args.set % 2) 1 c.before.if-set-eq1.true) c.only.ensures

pub returns : goal.returns
unfolding first_sent
returns c = rw (ne_eqb (c.before.args.set % 2) 1 c.if-set-eq1.false)
