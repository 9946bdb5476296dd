-- `bay_card::bay_lateness` meets its contract.
use Rattle.card.specs.Card.{lateness_of}
use mir.Syntax.{w64}
use mir.Val.{SFits}
use mir.Facts.{to_z-of_z}
use Rattle.bay_card.proofs.bay_lateness.Goals as goal

pub returns : goal.returns
unfolding lateness_of
returns c =
    let f : SFits w64 c.lateness.result = record { sfits = c.lateness.type_inv } in
    λ held unread reports. rw (to_z-of_z f) c.lateness.ensures
