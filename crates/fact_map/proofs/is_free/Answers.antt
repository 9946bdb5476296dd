-- `fact_map::is_free` meets its contract, test by test.
use mathlib.Core.Path.{◌≡◌, sym, ◌∙◌}
use borrow.Author.Tests.{eq-eqb, ne_eqb}
use Rattle.masks.specs.Sets.{intersects}
use Rattle.fact_map.specs.FactMap.{DROPPED}
use Rattle.fact_map.specs.Carry.{only, fits}
use Rattle.fact_map.proofs.is_free.Goals as goal
use Rattle.fact_map.proofs.is_free.Lts as Lts
use Rattle.fact_map.proofs.is_free.Tie as Tie
use Rattle.fact_map.proofs.is_free.Reads as Reads

abbrev AtAfterShareFact : Type 0
AtAfterShareFact = Lts.After-share_fact Tie.the-claims Reads.Pre Reads.Post

-- is the fact one that others are sent to?
shared : (c : AtAfterShareFact) → (let a = c.before.before.args in c.share_fact.result ≡ intersects a.taken (only a.to))
shared c = rw c.before.only.ensures at c.share_fact.ensures

pub returns-then-share_fact : goal.returns-then-share_fact
unfolding fits
returns-then-share_fact c = rw (sym (shared c.before) ∙ c.if-share_fact.true)

pub returns-then-to-eq-DROPPED : goal.returns-then-to-eq-DROPPED
unfolding fits
returns-then-to-eq-DROPPED c =
    let free = c.before in
    rw (sym (shared free.before) ∙ free.if-share_fact.false, eq-eqb free.before.before.before.args.to DROPPED c.if-to-eq-DROPPED.true)

pub returns : goal.returns
unfolding fits
returns c =
    let free = c.before in
    rw (sym (shared free.before) ∙ free.if-share_fact.false, ne_eqb free.before.before.before.args.to DROPPED c.if-to-eq-DROPPED.false)
