-- `bay_card::bay_read_outside` meets its contract.
use Rattle.bay_card.specs.CardWordLaws.{step_stored, outside_any}
use Rattle.bay_card.proofs.bay_read_outside.Goals as goal

pub returns : goal.returns
returns c =
    let step = c.outside_read-read in
    outside_any _ _ _ _ _ _ _ _ (step_stored step.ensures c.store.ensures)
