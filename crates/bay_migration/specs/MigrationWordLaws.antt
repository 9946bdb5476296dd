-- A card under a new table is answered alike whatever its counts are.
-- Assumes nothing.
use Rattle.std.specs.Prelude.{◌≡◌, List, ℕ, ◌^◌, ◌<◌}
use Rattle.std.proofs.Common.{sym}
use Rattle.refusal.specs.Checked.{accepted}
use Rattle.refusal.specs.CheckedLaws.{accepted_then, accepted_same}
use Rattle.card.specs.declared.Card.{Card}
use Rattle.card.specs.Card.{masks_of, with_masks}
use Rattle.card_migration.specs.Migration.{migrated_masks, migrated}
use Rattle.card_migration.specs.Promise.{GoesOn}
use Rattle.card_migration.specs.PromiseLaws.{migrated_goes_on}
use Rattle.bay_card_parts.specs.CardParts.{card_of, CardAnswered}
use Rattle.bay_card_parts.specs.CardPartLaws.{replaces_any}
use Rattle.bay_migration.specs.MigrationWords.{MigrationAnswered}

module _ (old new map : List ℕ) where
  goes_on_where : (c d : Card) → c.reports < 2 ^ 16 → migrated old new map c ≡ accepted d → GoesOn new d
  unfolding migrated
  goes_on_where c d h e =
      let (r, masks, same) = accepted_then (migrated_masks old new map (masks_of c)) (λ r. accepted (with_masks r c)) d e in
      rw (← accepted_same same) (migrated_goes_on old new map c h r (sym masks))

  pub migrated_any : (held unread held' unread' : ℕ) (lent : List ℕ) (result : ℕ) {a b c a' b' c' : ℕ}
      → CardAnswered (migrated old new map (card_of held unread a b c)) (card_of held unread a b c) (card_of held' unread' a' b' c') lent result
      → (reports taken planned : ℕ) → reports < 2 ^ 16
      → MigrationAnswered old new map (card_of held unread reports taken planned) (card_of held' unread' reports taken planned) lent result
  unfolding migrated
  migrated_any held unread held' unread' lent result s reports taken planned h =
      record {
        updates =
            replaces_any (λ r. r) held unread held' unread' lent result (migrated_masks old new map (record { held = held; unread = unread })) s reports taken planned;
        goes_on = goes_on_where (card_of held unread reports taken planned) (card_of held' unread' reports taken planned) h;
      }
