-- The promise of the tick of a row of vehicles, with its answer in words.
-- Assumes nothing.
use Rattle.std.specs.Prelude.{◌≡◌, List, ℕ, get_or}
use Rattle.refusal.specs.Checked.{Checked}
use Rattle.batch_walk.specs.Batch.{AnswerRows}
use Rattle.batch_tick.specs.BatchTick.{TicksAll}
use Rattle.bay_words.specs.Words.{words}
use Rattle.bay_words.specs.WordLaws.{answered_by}
use Rattle.bay_batch.specs.BatchWords.{read_words, BatchAnswered}

pub batch_answered : {table conditions absences actions held unread : List ℕ} {before after : AnswerRows} (told : Checked ℕ) {lent : List ℕ}
    → TicksAll table conditions absences actions held unread before after told → lent ≡ words 2 read_words told
    → BatchAnswered table conditions absences actions held unread before after lent (get_or lent 0 0)
batch_answered told p e = record { told = told; ticks = p; answers = answered_by e }
