-- A card in the parts that the C interface is lent, and what the calls on it give in the words of include/bay.h.
-- Definitions only.
use Rattle.std.specs.Prelude.{◌≡◌, List, [], ◌∷◌, ℕ, Err, Ok, Result}
use Rattle.refusal.specs.declared.Refusal.{Refusal}
use Rattle.refusal.specs.Checked.{Checked, answer_of}
use Rattle.card.specs.declared.Card.{Card}
use Rattle.card.specs.declared.CardStep.{CardStep}
use Rattle.card.specs.Card.{answer_due, card_after}
use Rattle.bay_words.specs.Words.{words, Answered}

abbrev pub done_words : Unit {0} → List ℕ
done_words done = 0 ∷ []

abbrev pub card_of : (held unread reports taken planned : ℕ) → Card
card_of held unread reports taken planned = record { held = held; unread = unread; reports = reports; taken = taken; planned = planned }

-- what a call promises of the card before and after it and of its answer; `due` is the definition's card or refusal
pub record CardAnswered (due : Checked Card) (before after : Card) (lent : List ℕ) (result : ℕ) : Type 0 where
  pub card : after ≡ card_after before due
  pub answers : Answered (words 2 done_words (answer_due due)) lent result

-- the lent card after a step: only a step that was done changes it
abbrev pub kept_or : Card → Card → (Result (Unit {0}) Refusal) → Card
kept_or before next (Ok tt) = next
kept_or before next (Err x) = before

pub record Stored (step : CardStep) (before after : Card) (lent : List ℕ) (result : ℕ) : Type 0 where
  pub card : after ≡ kept_or before step.card step.answer
  pub answers : Answered (words 2 done_words (answer_of step.answer)) lent result
