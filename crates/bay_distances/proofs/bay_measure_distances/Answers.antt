-- `bay_distances::bay_measure_distances` meets its contract.
use Rattle.bay_distances.specs.DistanceWordLaws.{distances_answered}
use Rattle.bay_distances.proofs.bay_measure_distances.Goals as goal
use Rattle.refusal.specs.Checked.{answer_of}

pub returns : goal.returns
returns c =
    distances_answered (answer_of c.measure.result) c.measure.ensures c.measured_words-told.ensures
