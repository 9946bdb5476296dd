-- What is judged of a row of readings and of a list before vehicles are ticked: document 02, W4, "The first bad reading among those rows stops the call
-- with 8 and its index as place. After that, a list of none or over 4,096 is 13 with place 0, and an entry with a condition bit at or above F, or
-- after entry 0 with a job not in the table, is 15 with the entry as place."
-- Definitions only.
use Rattle.std.specs.Prelude.{ℕ, Bool, ◌&&◌, ◌||◌, List, eqb, leb, ltb, length, if◌then◌else◌}
use Rattle.refusal.specs.Checked.{Checked, accepted, refused, checked_each}
use Rattle.reading.specs.declared.Reading.{Reading}
use Rattle.reading.specs.Reading.{checked_at}
use Rattle.conditions.specs.declared.Condition.{Condition}
use Rattle.conditions.specs.Condition.{condition_within}
use Rattle.planning.specs.Expansion.{Entry}
use Rattle.planning.specs.Columns.{max_entries}

-- 8, with the index of the vehicle
abbrev pub checked_readings : (facts : ℕ) → List Reading → Checked (List Reading)
checked_readings facts rs = checked_each (checked_at facts) 0 rs

-- entry i of a list: entry 0 is reached by no job, and what stands there for one is not looked at
unfoldable pub entry_fits : (facts jobs : ℕ) → (i : ℕ) → Condition → (job : ℕ) → Bool
entry_fits facts jobs i c job = condition_within facts c && (eqb i 0 || ltb job jobs)

-- 15, with the entry
abbrev pub checked_entry : (facts jobs : ℕ) → (i : ℕ) → Entry Condition → Checked (Entry Condition)
checked_entry facts jobs i x = if entry_fits facts jobs i x.condition x.action then accepted x else refused 15 i

-- 13, then 15. Document 02, W10: "W4's list [is] at most 2,978".
unfoldable pub checked_list : (paired : Bool) → (facts jobs : ℕ) → List (Entry Condition) → Checked (List (Entry Condition))
checked_list paired facts jobs l =
    if leb 1 (length l) && leb (length l) (max_entries paired) then checked_each (checked_entry facts jobs) 0 l else refused 13 0
