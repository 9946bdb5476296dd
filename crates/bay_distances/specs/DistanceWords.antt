-- What the distances of all states give, in the words of include/bay.h.
-- Definitions only.
use Rattle.std.specs.Prelude.{List, [], ◌∷◌, ℕ, length}
use Rattle.distances.specs.Measure.{measured, Measures}
use Rattle.bay_words.specs.Words.{words, Answered}

-- the states
abbrev pub state_words : ℕ → List ℕ
state_words n = n ∷ []

-- what they promise of the lent row, and of the answer
pub record DistancesAnswered (table before after answer : List ℕ) (result : ℕ) : Type 0 where
  pub measures : Measures table before after (measured table (length before))
  pub answers : Answered (words 2 state_words (measured table (length before))) answer result
