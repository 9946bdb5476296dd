-- The promise of the distances, with its answer in words.
-- Assumes nothing.
use Rattle.std.specs.Prelude.{◌≡◌, List, ℕ, get_or}
use Rattle.std.proofs.Common.{ap, ◌∙◌}
use Rattle.refusal.specs.Checked.{Checked}
use Rattle.distances.specs.Measure.{Measures}
use Rattle.bay_words.specs.Words.{words}
use Rattle.bay_words.specs.WordLaws.{answered_by}
use Rattle.bay_distances.specs.DistanceWords.{state_words, DistancesAnswered}

pub distances_answered : {table before after answer : List ℕ} (told : Checked ℕ) → Measures table before after told → answer ≡ words 2 state_words told
    → DistancesAnswered table before after answer (get_or answer 0 0)
distances_answered told m e = record { measures = rw m.answer at m; answers = answered_by (e ∙ ap (words 2 state_words) m.answer) }
