-- `fact_map::only` meets its contract: nothing is shifted out.
use native.Mathlib.Omega.{arith}
use native.Mathlib.Nat.{one-mul}
use mathlib.Core.Path.{◌∙◌}
use borrow.Author.Tests.{lt-ltb, le-ltb}
use lib.Pow.{shl_exact}
use Rattle.fact_map.specs.Carry.{only}
use Rattle.fact_map.proofs.only.Goals as goal

pub returns-then-fact-ge64 : goal.returns-then-fact-ge64
unfolding only
returns-then-fact-ge64 c = rw (le-ltb c.before.args.fact 64 c.if-fact-ge64.true)

pub returns : goal.returns
unfolding only
returns c =
    let n = c.before.args.fact in
    rw (lt-ltb n 64 c.if-fact-ge64.false) (shl_exact 1 n 64 (omega arith) (omega (arith, c.if-fact-ge64.false)) ∙ one-mul _)
