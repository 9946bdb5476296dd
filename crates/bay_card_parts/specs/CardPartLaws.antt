-- Laws of a card in its lent parts.
-- Assumes nothing.
use Rattle.std.specs.Prelude.{◌≡◌, refl, List, ℕ, Err, Ok, Result}
use Rattle.std.proofs.Common.{sym, ap, ◌∙◌}
use Rattle.refusal.specs.declared.Refusal.{Refusal}
use Rattle.refusal.specs.Checked.{Checked, accepted, refused, and_then, answer_of}
use Rattle.refusal.specs.CheckedLaws.{not_both}
use Rattle.reading.specs.declared.Reading.{Reading}
use Rattle.card.specs.declared.Card.{Card}
use Rattle.card.specs.declared.CardStep.{CardStep}
use Rattle.card.specs.Card.{with_masks, answer_due, card_after, Updated}
use Rattle.bay_card_parts.specs.CardParts.{card_of, CardAnswered, kept_or, Stored}

-- a step that meets the card's contract, stored; `seen` is the card that the step was made from
pub step_stored : {due : Checked Card} {step : CardStep} {seen before after : Card} {lent : List ℕ} {result : ℕ}
    → Updated due seen step.card step.answer → Stored step before after lent result → CardAnswered due before after lent result
step_stored {due} {step} {seen} {before} u s =
    record { card = s.card ∙ kept due step.answer u.answers u.leaves; answers = rw u.answers at s.answers }
  where
    kept : (d : Checked Card) (o : (Result (Unit {0}) Refusal)) → answer_of o ≡ answer_due d → step.card ≡ card_after seen d → kept_or before step.card o ≡ card_after before d
    kept (accepted c) (Ok tt) a l = l
    kept (accepted c) (Err x) a l = absurd (not_both a)
    kept (refused n p) (Ok tt) a l = absurd (not_both (sym a))
    kept (refused n p) (Err x) a l = refl

-- A call that replaces the masks alone looks at no count: what it promises of a card with the lent masks it promises of every one. `due` is its
-- refusal, or what the new masks are made of.
module _ {A : Type 0} (masks : A → Reading) (held unread held' unread' : ℕ) (lent : List ℕ) (result : ℕ) where
  abbrev Replaces : Checked A → (reports taken planned reports' taken' planned' : ℕ) → Type 0
  Replaces due reports taken planned reports' taken' planned' =
      CardAnswered (and_then due (λ a. accepted (with_masks (masks a) (card_of held unread reports taken planned)))) (card_of held unread reports taken planned)
      (card_of held' unread' reports' taken' planned') lent result

  pub replaces_any : (due : Checked A) {a b c a' b' c' : ℕ} → Replaces due a b c a' b' c'
      → (reports taken planned : ℕ) → Replaces due reports taken planned reports taken planned
  replaces_any (accepted a) s reports taken planned =
      let h : held' ≡ (masks a).held = ap (λ (x : Card). x.held) s.card in
      let u : unread' ≡ (masks a).unread = ap (λ (x : Card). x.unread) s.card in
      record { card = rw (h, u); answers = s.answers }
  replaces_any (refused n p) s reports taken planned =
      let h : held' ≡ held = ap (λ (x : Card). x.held) s.card in
      let u : unread' ≡ unread = ap (λ (x : Card). x.unread) s.card in
      record { card = rw (h, u); answers = s.answers }
