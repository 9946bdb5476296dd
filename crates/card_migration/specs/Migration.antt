-- A job card under a new table: document 02, W14. "Tables are revised during a job, and the card must go on."
-- Definitions only.
use Rattle.std.specs.Prelude.{ℕ, List}
use Rattle.refusal.specs.Checked.{Checked, accepted, and_then}
use Rattle.reading.specs.declared.Reading.{Reading}
use Rattle.reading.specs.Reading.{checked_at}
use Rattle.fact_map.specs.FactMap.{mapped_reading}
use Rattle.table.specs.Read.{read_table}
use Rattle.card.specs.declared.Card.{Card}
use Rattle.card.specs.Card.{masks_of, with_masks}

-- The masks under the new table, by "One byte for each old fact". 27 comes "after the old table, the new one and 8", which is of the masks under the
-- old table. The place of 8 and 27 is 0.
unfoldable pub migrated_masks : (old new map : List ℕ) → Reading → Checked Reading
migrated_masks old new map r =
    and_then (read_table old) λ t. and_then (read_table new) λ u. and_then (checked_at t.facts 0 r) λ s. mapped_reading t.facts u.facts map s

-- "count and sums remain, not judged by 18 here"
unfoldable pub migrated : (old new map : List ℕ) → Card → Checked Card
migrated old new map c = and_then (migrated_masks old new map (masks_of c)) λ r. accepted (with_masks r c)
