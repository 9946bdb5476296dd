-- A card in its lent parts, and what the calls over it give in the words of include/bay.h.
-- Definitions only.
use Rattle.std.specs.Prelude.{◌≡◌, List, [], ◌∷◌, ℕ, ltb, if◌then◌else◌, Err, Ok, Result}
use Rattle.refusal.specs.declared.Refusal.{Refusal}
use Rattle.refusal.specs.Checked.{Checked, refused, answer_of}
use Rattle.card.specs.declared.Card.{Card}
use Rattle.card.specs.declared.CardStep.{CardStep}
use Rattle.card.specs.Card.{answer_due, card_after}
use Rattle.card_calls.specs.Calls.{reported}
use Rattle.bay_words.specs.Words.{words, Answered}

abbrev pub done_words : Unit {0} → List ℕ
done_words done = 0 ∷ []

abbrev pub card_of : (held unread reports taken planned : ℕ) → Card
card_of held unread reports taken planned = record { held = held; unread = unread; reports = reports; taken = taken; planned = planned }

-- a report of so many seconds: "A report has a job and its taken seconds (16 bits)", so one of more is none; 102 is the header's number for it
abbrev pub reported_in : List ℕ → ℕ → ℕ → Card → Checked Card
reported_in table job seconds card = if ltb seconds 65536 then reported table (record { job = job; taken = seconds }) card else refused 102 0

-- what a call promises of the card before and after it and of its answer; `due` is the definition's card or refusal
pub record CardAnswered (due : Checked Card) (before after : Card) (lent : List ℕ) (result : ℕ) : Type 0 where
  pub card : after ≡ card_after before due
  pub answers : Answered (words 2 done_words (answer_due due)) lent result

-- the lent card after a step: only a step that was done changes it
abbrev pub kept_or : Card → Card → (Result (Unit {0}) Refusal) → Card
kept_or before next (Ok tt) = next
kept_or before next (Err x) = before

pub record Stored (step : CardStep) (before after : Card) (lent : List ℕ) (result : ℕ) : Type 0 where
  pub card : after ≡ kept_or before step.card step.answer
  pub answers : Answered (words 2 done_words (answer_of step.answer)) lent result
