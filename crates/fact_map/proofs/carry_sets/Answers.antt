-- `fact_map::carry_sets` meets its contract.
use Rattle.fact_map.specs.Carry.{carried_sets}
use Rattle.fact_map.proofs.carry_sets.Goals as goal

pub returns : goal.returns
unfolding carried_sets
returns c =
    let others = c.before.before in
    let unread = others.before.before in
    rw (c.before.join-unread.ensures, others.without-unknown.ensures, others.before.first_facts.ensures, unread.carry-carried.ensures, unread.before.carry-held.ensures)
