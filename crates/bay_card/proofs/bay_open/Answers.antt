-- `bay_card::bay_open` meets its contract.
use Rattle.bay_card.specs.CardWordLaws.{step_stored}
use Rattle.bay_card.proofs.bay_open.Goals as goal

pub returns : goal.returns
returns c =
    let step = c.opened-opened in
    step_stored step.ensures c.store.ensures
