-- What the tick of a row of vehicles gives, in the words of include/bay.h.
-- Definitions only.
use Rattle.std.specs.Prelude.{List, [], ◌∷◌, ℕ}
use Rattle.refusal.specs.Checked.{Checked}
use Rattle.batch_walk.specs.Batch.{AnswerRows}
use Rattle.batch_tick.specs.BatchTick.{TicksAll}
use Rattle.bay_words.specs.Words.{words, Answered}

-- the entries read
abbrev pub read_words : ℕ → List ℕ
read_words read = read ∷ []

-- what the tick of a row of vehicles promises, with its answer
pub record BatchAnswered (table conditions absences actions held unread : List ℕ) (before after : AnswerRows) (lent : List ℕ) (result : ℕ) : Type 0 where
  pub told : Checked ℕ
  pub ticks : TicksAll table conditions absences actions held unread before after told
  pub answers : Answered (words 2 read_words told) lent result
