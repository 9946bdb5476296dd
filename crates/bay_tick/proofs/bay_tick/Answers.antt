-- `bay_tick::bay_tick` meets its contract.
use Rattle.bay_tick.specs.TickWordLaws.{tick_answered}
use Rattle.bay_tick.proofs.bay_tick.Goals as goal

pub returns : goal.returns
returns c = tick_answered c.tick.ensures c.ticked_words-ticked.ensures
