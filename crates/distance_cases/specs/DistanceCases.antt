-- Document 02, W13, on document 01's trailer and on the trailer with one fact less: the distances of their 32 and 16 states, by the held mask; those of a
-- small table in which a job's deletes decide; and the answers, with the refusals in their order.
-- Definitions only; DistanceComputed.antt shows that these are the rows and the answers that the contract of `measure` gives.
use Rattle.std.specs.Prelude.{ℕ, ◌≡◌, List, [], ◌∷◌, ◌++◌, take, if◌then◌else◌}
use Rattle.refusal.specs.Checked.{accepted, refused}
use Rattle.conditions.specs.declared.Condition.{Condition}
use Rattle.conditions.specs.Condition.{satisfied}
use Rattle.table.specs.Table.{Table, table_bytes}
use Rattle.planning.specs.Expansion.{Entry}
use Rattle.distance_steps.specs.Distance.{no_distance}
use Rattle.distances.specs.Measure.{measured}
use Rattle.marked_cases.specs.Trailer.{job, trailer_bytes}
use Rattle.marked_cases.specs.OneFactLess.{one_fact_less_bytes}

-- the depth of the first entry that a state meets, or 65,535
unfoldable pub first_depth : List (Entry Condition) → ℕ → ℕ
first_depth [] s = no_distance
first_depth (x ∷ l) s = let later = first_depth l s in if satisfied x.condition s then x.depth else later

-- Held 00 to 1f: four facts for the trailer and its measurements, then the same with the unit sealed, which is the goal. Without a trailer that is on or
-- off only a vehicle with both measurements comes to it.
abbrev pub trailer_row : List ℕ
trailer_row =
    65535 ∷ 4 ∷ 4 ∷ 3 ∷ 65535 ∷ 3 ∷ 2 ∷ 2 ∷ 65535 ∷ 2 ∷ 3 ∷ 2 ∷ 1 ∷ 1 ∷ 1 ∷ 1 ∷ 0 ∷ 0 ∷ 0 ∷ 0 ∷ 0 ∷ 0 ∷ 0 ∷ 0 ∷ 0 ∷ 0 ∷ 0 ∷ 0 ∷ 0 ∷ 0 ∷ 0 ∷ 0 ∷ []

-- with "trailer off" as the absence of "trailer on" every state has a way
abbrev pub one_fact_less_row : List ℕ
one_fact_less_row = 4 ∷ 4 ∷ 3 ∷ 2 ∷ 2 ∷ 3 ∷ 1 ∷ 1 ∷ 0 ∷ 0 ∷ 0 ∷ 0 ∷ 0 ∷ 0 ∷ 0 ∷ 0 ∷ []

-- Two facts, both of them the goal, and one job, which adds the second and deletes the first: it leads nowhere. Without its deletes state 1 would come to
-- the goal by it.
abbrev pub deleting : Table
deleting = record { facts = 2; jobs = job 0 2 1 60 ∷ []; goal = 3 }

abbrev pub deleting_row : List ℕ
deleting_row = 65535 ∷ 65535 ∷ 65535 ∷ 0 ∷ []

-- a table of so many facts without jobs
abbrev pub bare : ℕ → List ℕ
bare facts = table_bytes (record { facts = facts; jobs = []; goal = 0 })

pub record AnswersInOrder : Type 0 where
  pub trailer : measured trailer_bytes 32 ≡ accepted 32
  pub one_fact_less_measured : measured one_fact_less_bytes 16 ≡ accepted 16
  -- the table's own stops come first, then 25, then 26
  pub table_first : measured (take 146 trailer_bytes) 31 ≡ refused 1 146
  pub after_table : measured (bare 16 ++ (0 ∷ [])) 0 ≡ refused 7 12
  pub many_first : measured (bare 16) 0 ≡ refused 25 0
  pub many : measured (bare 16) 65536 ≡ refused 25 0
  pub most : measured (bare 15) 32768 ≡ accepted 32768
  pub too_short : measured trailer_bytes 31 ≡ refused 26 0
  pub too_long : measured trailer_bytes 33 ≡ refused 26 0
  pub no_row : measured (bare 1) 0 ≡ refused 26 0
