-- `bay_batch::bay_tick_all` meets its contract.
use Rattle.bay_batch.specs.BatchWordLaws.{batch_answered}
use Rattle.bay_batch.proofs.bay_tick_all.Goals as goal
use Rattle.refusal.specs.Checked.{answer_of}

pub returns : goal.returns
returns c =
    batch_answered (answer_of c.tick_all.result) c.tick_all.ensures c.batch_words-ticked.ensures
