-- `fact_map::first_facts` meets its contract: nothing is shifted out.
use native.Mathlib.Omega.{arith}
use native.Mathlib.Nat.{one-mul}
use mathlib.Core.Path.{◌≡◌, ◌∙◌}
use Prim.Native.Nat.{◌*◌, ◌%◌, ◌^◌}
use lib.Pow.{pow_pos, shl_exact}
use Rattle.fact_map.specs.Carry.{first_facts}
use Rattle.fact_map.proofs.first_facts.Goals as goal
use Rattle.fact_map.proofs.first_facts.Lts as Lts
use Rattle.fact_map.proofs.first_facts.Reads as Reads

abbrev AtElse1 : Type 0
AtElse1 = Lts.Else1 Reads.Pre Reads.Post

-- the power of 2, where there are fewer than 64 facts
power : (c : AtElse1) → 1 * 2 ^ c.before.args.facts % 2 ^ 64 ≡ 2 ^ c.before.args.facts
power c = shl_exact 1 c.before.args.facts 64 (omega arith) (omega (arith, c.before.requires, c.if-facts-eq64.false)) ∙ one-mul _

pub returns-then-facts-eq64 : goal.returns-then-facts-eq64
unfolding first_facts
returns-then-facts-eq64 c = rw c.if-facts-eq64.true

pub overflow_shl-result : goal.overflow_shl-result
overflow_shl-result c = omega (arith, c.before.requires, c.if-facts-eq64.false)

pub overflow_sub-result : goal.overflow_sub-result
overflow_sub-result c = rw (power c) (pow_pos c.before.args.facts)

pub returns : goal.returns
unfolding first_facts
returns c = rw (power c)
