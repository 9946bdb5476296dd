-- What a card under a new table gives, in the words of include/bay.h.
-- Definitions only.
use Rattle.std.specs.Prelude.{◌≡◌, List, ℕ}
use Rattle.refusal.specs.Checked.{accepted}
use Rattle.card.specs.declared.Card.{Card}
use Rattle.card_migration.specs.Migration.{migrated}
use Rattle.card_migration.specs.Promise.{GoesOn}
use Rattle.bay_card_parts.specs.CardParts.{CardAnswered}

-- of the card before and after it is migrated, and of the answer; where it is done, it goes on
pub record MigrationAnswered (old new map : List ℕ) (before after : Card) (lent : List ℕ) (result : ℕ) : Type 0 where
  pub updates : CardAnswered (migrated old new map before) before after lent result
  pub goes_on : migrated old new map before ≡ accepted after → GoesOn new after
