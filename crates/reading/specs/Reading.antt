-- Readings of a vehicle: document 01, "A reading is two masks, held and unread. A fact in neither is read and absent."
-- Definitions only.
use Rattle.std.specs.Prelude.{ℕ, Bool, not, ◌&&◌, T, eqb, if◌then◌else◌, Err, Ok, Result}
use Rattle.refusal.specs.Checked.{Checked, accepted, refused, refused_by, and_then}
use Rattle.masks.specs.Sets.{subset, intersects, union, within}
use Rattle.reading.specs.declared.Reading.{Reading}

-- Stop 8 arises where this fails: "A reading, or the card's masks, share a fact or have a bit at or above F."
unfoldable pub sound : ℕ → Reading → Bool
sound facts r = within facts r.held && (within facts r.unread && not (intersects r.held r.unread))

-- 8; the place is its caller's
unfoldable pub checked_at : ℕ → ℕ → Reading → Checked Reading
checked_at facts place r = if sound facts r then accepted r else refused 8 place

-- 8, then 9: "A start for planning has an unread fact."
unfoldable pub checked_start : ℕ → Reading → Checked Reading
checked_start facts start = and_then (checked_at facts 0 start) λ r. if eqb r.unread 0 then accepted r else refused 9 0

-- s is one way of filling in the unread facts: it has each held fact, and no fact that is read and absent
pub record Completes (r : Reading) (s : ℕ) : Type 0 where
  pub keeps_held : T (subset r.held s)
  pub adds_unread : T (subset s (union r.held r.unread))

-- "A state is a held mask without a bit at or above F, and nothing is unread."
abbrev pub state : ℕ → Reading
state s = record { held = s; unread = 0 }
