-- `reading::is_sound` meets its contract: each test of the code is one of the definition's, in its order.
use mathlib.Core.Path.{sym, ap, ◌∙◌}
use mathlib.Core.Bool.{not}
use Rattle.reading.specs.Reading.{sound}
use Rattle.reading.proofs.is_sound.Goals as goal

pub returns-then-not-is_within : goal.returns-then-not-is_within
unfolding sound
returns-then-not-is_within c = rw (sym c.before.is_within.ensures ∙ c.if-not-is_within.true)

pub returns-then-not-is_within-2 : goal.returns-then-not-is_within-2
unfolding sound
returns-then-not-is_within-2 c = rw (sym c.before.before.before.is_within.ensures ∙ c.before.before.if-not-is_within.false, sym c.before.is_within-2.ensures ∙ c.if-not-is_within-2.true)

pub returns : goal.returns
unfolding sound
returns c =
    rw (sym c.before.before.before.before.is_within.ensures ∙ c.before.before.before.if-not-is_within.false, sym c.before.before.is_within-2.ensures ∙ c.before.if-not-is_within-2.false)
    (ap not c.share_fact.ensures)
