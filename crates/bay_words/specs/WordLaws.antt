-- Laws of answers in words.
-- Assumes nothing.
use Rattle.std.specs.Prelude.{◌≡◌, List, ℕ, get_or}
use Rattle.std.proofs.Common.{ap}
use Rattle.bay_words.specs.Words.{Answered}

-- a function that stores the words that are due and returns the first of them
pub answered_by : {due lent : List ℕ} → lent ≡ due → Answered due lent (get_or lent 0 0)
answered_by e = record { lends = e; gives = ap (λ (l : List ℕ). get_or l 0 0) e }
