-- `table::read_goal` meets its contract, for whatever jobs stood before.
use Rattle.std.proofs.Common.{◌+◌, sym, ap, ◌∙◌, arith}
use Rattle.std.proofs.lemmas.Grind.{common_steps}
use Rattle.masks.specs.Sets.{within}
use Rattle.table.specs.Read.{headed}
use Rattle.table.proofs.ReadLaws.{goal_in, goal_out}
use Rattle.numbers.specs.Numbers.{number_at}
use Rattle.table.proofs.read_goal.Goals as goal

pub returns-then-not-is_within : goal.returns-then-not-is_within
returns-then-not-is_within c = grind (arith, common_steps, goal_out)

pub returns : goal.returns
returns c js h p =
    let a = c.args in
    let g = c.read_u64-goal.ensures in
    c.read_end.ensures (record { facts = a.facts; jobs = js; goal = number_at 8 a.s.now (a.at + 1) }) (λ i. record { facts = a.facts; jobs = h i; goal = sym g i; paired = p i })
    ∙ ap headed (goal_in _ _ js _ _ (ap (within a.facts) (sym g) ∙ sym c.is_within.ensures ∙ c.if-not-is_within.false))
