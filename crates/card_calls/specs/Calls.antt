-- The calls on a job card under a table's bytes: document 01, "Job card", with stops 8 and 16 to 18 of "Stops, in checking order". The place of
-- each of these is 0.
-- Definitions only.
use Rattle.std.specs.Prelude.{ℕ, List}
use Rattle.refusal.specs.Checked.{Checked, accepted, and_then}
use Rattle.reading.specs.declared.Reading.{Reading}
use Rattle.reading.specs.Reading.{checked_at}
use Rattle.table.specs.Table.{Table}
use Rattle.table.specs.Read.{read_table, named_job}
use Rattle.card.specs.declared.Card.{Card}
use Rattle.card.specs.Card.{masks_of, new_card, with_masks, booked}
use Rattle.card_calls.specs.declared.JobReport.{JobReport}

-- the table's own stops, then 8 of a reading under it, at a place
unfoldable pub table_for : List ℕ → ℕ → Reading → Checked Table
table_for table place r = and_then (read_table table) λ t. and_then (checked_at t.facts place r) λ s. accepted t

-- "A new one has zero counts": a card that is in use is replaced whole
unfoldable pub opened : List ℕ → Reading → Checked Card
opened table r = and_then (table_for table 0 r) λ t. accepted (new_card r)

-- "a later outside reading replaces both masks, and the old masks are not judged then". 18 is not judged either: it stands after 16 and 17,
-- which only a report has, and a reading changes no count and no sum. So the card is looked at nowhere before it is accepted.
unfoldable pub outside_read : List ℕ → Reading → Card → Checked Card
outside_read table r c = and_then (table_for table 0 r) λ t. accepted (with_masks r c)

-- "A report has a job and its taken seconds": the table's own stops, 8 with the card's own masks, 16 with the job's number, 17, 18
unfoldable pub reported : List ℕ → JobReport → Card → Checked Card
reported table x c = and_then (table_for table 0 (masks_of c)) λ t. and_then (named_job t x.job 0) λ j. booked j x.taken c
