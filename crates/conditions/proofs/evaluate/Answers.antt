-- `conditions::evaluate` meets its contract: each way through its tests is one of the definition's.
use mathlib.Core.Path.{◌≡◌, sym, ap, ◌∙◌}
use mathlib.Core.Bool.{true, false}
use Rattle.masks.specs.Sets.{subset, intersects, union}
use Rattle.conditions.specs.OnReadingLaws.{evaluated_present, evaluated_absent, evaluated_met, evaluated_open}
use Rattle.conditions.proofs.evaluate.Goals as goal
use Rattle.conditions.proofs.evaluate.Lts as Lts
use Rattle.conditions.proofs.evaluate.Tie as Tie
use Rattle.conditions.proofs.evaluate.Reads as Reads

abbrev AtAfterIsSubset : Type 0
AtAfterIsSubset = Lts.After-is_subset Tie.the-claims Reads.Pre Reads.Post

abbrev AtAfterJoin2 : Type 0
AtAfterJoin2 = Lts.After-join2 Tie.the-claims Reads.Pre Reads.Post

abbrev AtAfterShareFact : Type 0
AtAfterShareFact = Lts.After-share_fact Tie.the-claims Reads.Pre Reads.Post

abbrev AtStart : Type 0
AtStart = Lts.Start Tie.the-claims Reads.Pre Reads.Post

-- ---- the places that the answers look back at

abbrev start_of : AtAfterIsSubset → AtStart
start_of c = c.before.before

-- the first test is that of the facts to hold
all_possible : (c : AtAfterIsSubset) → let a = (start_of c).args in
    c.is_subset.result ≡ subset a.c.present (union a.reading.held a.reading.unread)
all_possible c = c.is_subset.ensures ∙ ap (subset _) c.join-possible.ensures

pub returns-then-not-is_subset : goal.returns-then-not-is_subset
returns-then-not-is_subset c = evaluated_present _ _ (sym (all_possible c.before) ∙ c.if-not-is_subset.true)

pub returns-then-share_fact : goal.returns-then-share_fact
returns-then-share_fact c =
    evaluated_absent _ _ (sym (all_possible c.before.before.before) ∙ c.if-not-is_subset.false) (sym c.share_fact.ensures ∙ c.if-share_fact.true)

-- no fact that was read fails the condition
abbrev Undecided : Type 0
Undecided = AtAfterJoin2

abbrev asked_of : Undecided → AtAfterShareFact
asked_of c = c.before.before

held : (c : Undecided) → let a = (start_of (asked_of c).before.before).args in
    subset a.c.present (union a.reading.held a.reading.unread) ≡ true
held c = sym (all_possible (asked_of c).before.before) ∙ (asked_of c).if-not-is_subset.false

absent : (c : Undecided) → let a = (start_of (asked_of c).before.before).args in intersects a.c.absent a.reading.held ≡ false
absent c = sym (asked_of c).share_fact.ensures ∙ c.if-share_fact.false

pub returns-then-unread-eq0 : goal.returns-then-unread-eq0
returns-then-unread-eq0 c =
    evaluated_met _ _ (held c.before.before) (absent c.before.before) (rw c.join.ensures at c.if-unread-eq0.true)

pub returns : goal.returns
returns c =
    rw c.join.ensures (evaluated_open _ _ (held c.before.before) (absent c.before.before) (rw c.join.ensures at c.if-unread-eq0.false))
