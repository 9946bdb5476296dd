-- A tick's promise, with its answer in words.
-- Assumes nothing.
use Rattle.std.specs.Prelude.{◌≡◌, List, ℕ, get_or, Result}
use Rattle.std.proofs.Common.{ap, ◌∙◌}
use Rattle.reading.specs.declared.Reading.{Reading}
use Rattle.tree.specs.declared.Status.{Status}
use Rattle.refusal.specs.declared.Refusal.{Refusal}
use Rattle.tick.specs.Answers.{Answers}
use Rattle.bay_words.specs.Words.{words}
use Rattle.bay_words.specs.WordLaws.{answered_by}
use Rattle.bay_tick.specs.TickWords.{status_words, TickAnswered}
use Rattle.refusal.specs.Checked.{answer_of}

pub tick_answered : {table tree : List ℕ} {r : Reading} {ticked : (Result Status Refusal)} {lent : List ℕ} → Answers table tree r ticked
    → lent ≡ words 3 status_words (answer_of ticked) → TickAnswered table tree r lent (get_or lent 0 0)
tick_answered p e = record { answers = answered_by (e ∙ ap (words 3 status_words) p.answer); settled = λ a is. p.settled a (p.answer ∙ is) }
