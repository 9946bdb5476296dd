-- A card under a new table, way by way: what each check leads to, and that what is carried over is sound. Equations are turned so that a function's
-- answers chain with them.
-- Assumes nothing.
use Rattle.std.specs.Prelude.{ℕ, ◌≤◌, ◌≡◌, true, List, leb}
use Rattle.std.proofs.Math.Path.{sym}
use Rattle.std.proofs.Common.{ap, ◌∙◌, leb→le}
use Rattle.base.specs.Bools.{and_right, holds, is_true}
use Rattle.refusal.specs.Checked.{accepted, refused}
use Rattle.refusal.specs.CheckedLaws.{accepted_then}
use Rattle.numbers.specs.Numbers.{AreBytes}
use Rattle.reading.specs.declared.Reading.{Reading}
use Rattle.reading.specs.Reading.{sound, checked_at}
use Rattle.reading.specs.ReadingLaws.{checked_told}
use Rattle.fact_map.specs.FactMap.{mapped_reading}
use Rattle.fact_map.specs.FactMapLaws.{mapped_told, carried_over_sound}
use Rattle.table.specs.Table.{Table}
use Rattle.table.specs.Read.{read_table}
use Rattle.table.proofs.RoundTripLaws.{read_sound}
use Rattle.card.specs.declared.Card.{Card}
use Rattle.card.specs.Card.{masks_of, with_masks}
use Rattle.card_migration.specs.Migration.{migrated_masks, migrated}

-- a table that was read has at most 64 facts
pub facts_few : (s : List ℕ) → AreBytes s → (t : Table) → accepted t ≡ read_table s → t.facts ≤ 64
facts_few s b t e = leb→le t.facts 64 (and_right (leb 1 t.facts) _ (holds _ (read_sound s b t (sym e)).facts_range_held))

module _ (old new map : List ℕ) (r : Reading) where
  pub old_refused : {n p : ℕ} → refused n p ≡ read_table old → refused n p ≡ migrated_masks old new map r
  unfolding migrated_masks
  old_refused e = rw (← e)

  module _ (t : Table) (e : accepted t ≡ read_table old) where
    pub new_refused : {n p : ℕ} → refused n p ≡ read_table new → refused n p ≡ migrated_masks old new map r
    unfolding migrated_masks
    new_refused h = rw (← e, ← h)

    module _ (u : Table) (h : accepted u ≡ read_table new) where
      pub masks_bad : {n p : ℕ} → refused n p ≡ checked_at t.facts 0 r → refused n p ≡ migrated_masks old new map r
      unfolding migrated_masks
      masks_bad q = rw (← e, ← h, ← q)

      pub masks_mapped : {s : Reading} → accepted s ≡ checked_at t.facts 0 r → mapped_reading t.facts u.facts map s ≡ migrated_masks old new map r
      unfolding migrated_masks
      masks_mapped q = rw (← e, ← h, ← q)

  -- the masks under the new table are sound there
  pub masks_sound : (s : Reading) → accepted s ≡ migrated_masks old new map r → (u : Table) × (accepted u ≡ read_table new) × (sound u.facts s ≡ true)
  unfolding migrated_masks
  masks_sound s e =
      let (t, read_old, next) = accepted_then (read_table old) _ s (sym e) in
      let (u, read_new, judged) = accepted_then (read_table new) _ s next in
      let (q, good, mapped) = accepted_then (checked_at t.facts 0 r) _ s judged in
      let (is_sound, same) = checked_told t.facts r 0 q good in
      let over = carried_over_sound t.facts u.facts map q (holds _ (sym (ap (sound t.facts) same) ∙ is_sound)) in
      (u, sym read_new, is_true _ (rw (mapped_told t.facts u.facts map q s mapped) at over))

module _ (old new map : List ℕ) (c : Card) where
  pub migrated_refused : {n p : ℕ} → refused n p ≡ migrated_masks old new map (masks_of c) → refused n p ≡ migrated old new map c
  unfolding migrated
  migrated_refused e = rw (← e)

  pub migrated_done : {r : Reading} → accepted r ≡ migrated_masks old new map (masks_of c) → accepted (with_masks r c) ≡ migrated old new map c
  unfolding migrated
  migrated_done e = rw (← e)
