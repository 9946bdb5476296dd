-- What a tick gives, in the words of include/bay.h.
-- Definitions only.
use Rattle.std.specs.Prelude.{true, ◌≡◌, List, [], ◌∷◌, ℕ}
use Rattle.refusal.specs.Checked.{accepted}
use Rattle.reading.specs.declared.Reading.{Reading}
use Rattle.tree.specs.TickBytes.{tick_bytes, answered, is_settled, Settled}
use Rattle.tree.specs.declared.Status.{Status}
use Rattle.tree.specs.StatusNumbers.{status_number, status_value}
use Rattle.bay_words.specs.Words.{words, Answered}

-- the status, and the job or mask that comes with it
abbrev pub status_words : Status → List ℕ
status_words a = status_number a ∷ status_value a ∷ []

-- what a tick promises: the definition's answer, and Success, Failure, Running or Waiting only where it is settled
pub record TickAnswered (table tree : List ℕ) (r : Reading) (lent : List ℕ) (result : ℕ) : Type 0 where
  pub answers : Answered (words 3 status_words (answered (tick_bytes table tree r))) lent result
  pub settled : (a : Status) → answered (tick_bytes table tree r) ≡ accepted a → is_settled a ≡ true → Settled table tree r a
