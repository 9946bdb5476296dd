-- `bay_card::store` meets its contract.
use Rattle.bay_words.specs.WordLaws.{answered_by}
use Rattle.bay_card.proofs.store.Goals as goal

pub returns-in-Err : goal.returns-in-Err
returns-in-Err c =
    let w = c.done_words-words.ensures in
    record { card = rw c.in-Err.is; answers = answered_by w }

pub returns-in-Ok : goal.returns-in-Ok
returns-in-Ok c =
    let w = c.done_words-words.ensures in
    record { card = rw c.in-Ok.is; answers = answered_by w }
