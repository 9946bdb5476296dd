-- The facts of one table as facts of another: document 02, W14. "One byte for each old fact gives its new number, or 255 for dropped."
-- Definitions only.
use Rattle.std.specs.Prelude.{ℕ, zero, suc, ◌+◌, ◌*◌, Bool, true, false, not, ◌&&◌, ◌||◌, List, [], ◌∷◌, eqb, ltb, length, if◌then◌else◌}
use Rattle.masks.specs.Sets.{bit}
use Rattle.refusal.specs.Checked.{Checked, accepted, refused}
use Rattle.reading.specs.declared.Reading.{Reading}

abbrev pub DROPPED : ℕ
DROPPED = 255

-- ---- 27: "A map of the wrong length, a number outside the new table, or two facts sent to one is refused as 27". The place is 0.

-- is a fact sent to n?
unfoldable pub sent : List ℕ → ℕ → Bool
sent [] n = false
sent (x ∷ map) n = eqb x n || sent map n

-- Each fact is dropped, or sent to a fact of the new table to which none behind it is sent. Any number of them may be dropped.
unfoldable pub sends : (new : ℕ) → List ℕ → Bool
sends new [] = true
sends new (x ∷ map) = (eqb x DROPPED || (ltb x new && not (sent map x))) && sends new map

-- between a table of so many old facts and one of so many new ones
unfoldable pub is_map : (old new : ℕ) → List ℕ → Bool
is_map old new map = eqb (length map) old && sends new map

-- ---- what becomes of a reading

-- the old fact that is sent to a new one, by its number
pub data Source : Type 0 where
  fact : ℕ → Source
  none : Source

abbrev pub next : Source → Source
next (fact i) = fact (suc i)
next none = none

unfoldable pub source_of : List ℕ → ℕ → Source
source_of [] n = none
source_of (x ∷ map) n = let later = source_of map n in if eqb x n then fact 0 else next later

-- the set of those facts below n that are marked by 1
unfoldable pub set_of : (ℕ → ℕ) → (n : ℕ) → ℕ
set_of mark zero = 0
set_of mark (suc n) = mark 0 + 2 * set_of (λ i. mark (suc i)) n

-- "Mapped facts carry held, absent or unread over, facts of the new table without a source become unread"
abbrev pub held_from : Reading → Source → ℕ
held_from r (fact i) = bit r.held i
held_from r none = 0

abbrev pub unread_from : Reading → Source → ℕ
unread_from r (fact i) = bit r.unread i
unread_from r none = 1

-- fact n of the new reading, by the old fact that is sent to n
unfoldable pub carried_over : (new : ℕ) → List ℕ → Reading → Reading
carried_over new map r =
    record { held = set_of (λ n. held_from r (source_of map n)) new; unread = set_of (λ n. unread_from r (source_of map n)) new }

-- 27, or the reading under the new table
unfoldable pub mapped_reading : (old new : ℕ) → List ℕ → Reading → Checked Reading
mapped_reading old new map r = if is_map old new map then accepted (carried_over new map r) else refused 27 0
