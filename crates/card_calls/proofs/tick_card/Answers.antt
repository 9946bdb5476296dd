-- The tick is that of the card's masks.
use Rattle.card_calls.proofs.tick_card.Goals as goal

pub returns : goal.returns
returns c = rw c.masks_of-masks.ensures at c.tick.ensures
