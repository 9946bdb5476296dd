-- Laws of a card in its lent parts.
-- Assumes nothing.
use Rattle.std.specs.Prelude.{◌≡◌, refl, List, ℕ, Err, Ok, Result}
use Rattle.std.proofs.Common.{sym, ap, ◌∙◌}
use Rattle.refusal.specs.declared.Refusal.{Refusal}
use Rattle.refusal.specs.Checked.{Checked, accepted, refused, and_then, answer_of}
use Rattle.refusal.specs.CheckedLaws.{not_both}
use Rattle.reading.specs.declared.Reading.{Reading}
use Rattle.table.specs.Table.{Table}
use Rattle.card.specs.declared.Card.{Card}
use Rattle.card.specs.declared.CardStep.{CardStep}
use Rattle.card.specs.Card.{with_masks, answer_due, card_after, Updated}
use Rattle.card_calls.specs.Calls.{table_for, outside_read}
use Rattle.bay_card.specs.CardWords.{card_of, CardAnswered, kept_or, Stored}

-- a step that meets the card's contract, stored; `seen` is the card that the step was made from
pub step_stored : {due : Checked Card} {step : CardStep} {seen before after : Card} {lent : List ℕ} {result : ℕ}
    → Updated due seen step.card step.answer → Stored step before after lent result → CardAnswered due before after lent result
step_stored {due} {step} {seen} {before} u s =
    record { card = s.card ∙ kept due step.answer u.answers u.leaves; answers = rw u.answers at s.answers }
  where
    kept : (d : Checked Card) (o : (Result (Unit {0}) Refusal)) → answer_of o ≡ answer_due d → step.card ≡ card_after seen d → kept_or before step.card o ≡ card_after before d
    kept (accepted c) (Ok tt) a l = l
    kept (accepted c) (Err x) a l = absurd (not_both a)
    kept (refused n p) (Ok tt) a l = absurd (not_both (sym a))
    kept (refused n p) (Err x) a l = refl

-- an outside reading looks at no count: what holds of a card with the lent masks holds of every one
module _ (table : List ℕ) (r : Reading) (held unread held' unread' : ℕ) (lent : List ℕ) (result : ℕ) where
  -- the promise, by the table that the reading is judged with
  abbrev Outside : Checked Table → (reports taken planned reports' taken' planned' : ℕ) → Type 0
  Outside t reports taken planned reports' taken' planned' =
      CardAnswered (and_then t (λ _. accepted (with_masks r (card_of held unread reports taken planned)))) (card_of held unread reports taken planned)
      (card_of held' unread' reports' taken' planned') lent result

  by_table : (t : Checked Table) {a b c a' b' c' : ℕ} → Outside t a b c a' b' c' → (reports taken planned : ℕ) → Outside t reports taken planned reports taken planned
  by_table (accepted t) s reports taken planned =
      let h : held' ≡ r.held = ap (λ (x : Card). x.held) s.card in
      let u : unread' ≡ r.unread = ap (λ (x : Card). x.unread) s.card in
      record { card = rw (h, u); answers = s.answers }
  by_table (refused n p) s reports taken planned =
      let h : held' ≡ held = ap (λ (x : Card). x.held) s.card in
      let u : unread' ≡ unread = ap (λ (x : Card). x.unread) s.card in
      record { card = rw (h, u); answers = s.answers }

  pub outside_any : {a b c a' b' c' : ℕ}
      → CardAnswered (outside_read table r (card_of held unread a b c)) (card_of held unread a b c) (card_of held' unread' a' b' c') lent result
      → (reports taken planned : ℕ)
      → CardAnswered (outside_read table r (card_of held unread reports taken planned)) (card_of held unread reports taken planned)
      (card_of held' unread' reports taken planned) lent result
  unfolding outside_read
  outside_any s = by_table (table_for table 0 r) s
