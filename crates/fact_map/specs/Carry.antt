-- The same in sets, as the code finds it: where the facts of a set are sent.
-- Definitions only.
use Rattle.std.specs.Prelude.{ℕ, ◌-◌, ◌/◌, ◌%◌, ◌^◌, Bool, ◌&&◌, ◌||◌, not, List, [], ◌∷◌, eqb, ltb, if◌then◌else◌}
use Rattle.masks.specs.Sets.{union, difference, intersects}
use Rattle.refusal.specs.Checked.{Checked, accepted, refused}
use Rattle.reading.specs.declared.Reading.{Reading}
use Rattle.fact_map.specs.FactMap.{DROPPED, is_map}

-- the set of one fact; a mask has none at or above 64, and so not the fact that a dropped one would be
unfoldable pub only : ℕ → ℕ
only n = if ltb n 64 then 2 ^ n else 0

-- the facts that some fact is sent to
unfoldable pub targets : List ℕ → ℕ
targets [] = 0
targets (x ∷ map) = union (targets map) (only x)

-- may a fact be sent to x, where others are sent to the facts of a set?
unfoldable pub fits : (new : ℕ) → (others : ℕ) → ℕ → Bool
fits new others x = not (intersects others (only x)) && (eqb x DROPPED || ltb x new)

-- where the first fact of a set goes
unfoldable pub first_sent : ℕ → (set : ℕ) → ℕ
first_sent x set = if eqb (set % 2) 1 then only x else 0

-- where all of them go
unfoldable pub carried : List ℕ → (set : ℕ) → ℕ
carried [] set = 0
carried (x ∷ map) set = union (first_sent x set) (carried map (set / 2))

-- the facts below n
unfoldable pub first_facts : ℕ → ℕ
first_facts n = 2 ^ n - 1

unfoldable pub carried_sets : (new : ℕ) → List ℕ → (sent_to : ℕ) → Reading → Reading
carried_sets new map sent_to r =
    record { held = carried map r.held; unread = union (carried map r.unread) (difference (first_facts new) sent_to) }

-- 27, or where the facts are sent
unfoldable pub checked_map : (old new : ℕ) → List ℕ → Checked ℕ
checked_map old new map = if is_map old new map then accepted (targets map) else refused 27 0
