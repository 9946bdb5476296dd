-- The search for a listed part, step by step, and what each answer says.
-- Assumes nothing.
use Rattle.std.specs.Prelude.{Bool, not, ◌&&◌, List, ◌≡◌, ℕ, zero, suc, ◌-◌, ◌^◌, ◌≤◌, ◌<◌, T, get_or, None, Option, Some}
use Rattle.std.proofs.Math.Bool.{true, false}
use Rattle.std.proofs.Math.Path.{refl}
use Rattle.std.proofs.Common.{sym, ◌∙◌, not-suc-le-zero, arith}
use Rattle.std.proofs.Math.Decide.{dec_le}
use Rattle.base.specs.Bools.{holds}
use Rattle.masks.specs.Sets.{subset, intersects, others}
use Rattle.masks.specs.Laws.{part_others}
use Rattle.conditions.specs.declared.Condition.{Condition}
use Rattle.conditions.specs.Condition.{weaker, condition_at}
use Rattle.conditions.specs.Search.{newest_weaker, Sharing, Newest, Searches}

pub found_nowhere : {k : ℕ} → Some k ≡ None → ⊥
found_nowhere e = let z : ◌≡◌ {A = ℕ} 0 1 = cc in omega arith

turned : (b : Bool) → not b ≡ true → b ≡ false
turned true e = sym e
turned false e = refl

-- four masks, one by one
pub four_sharing : (masks : List ℕ) (others k : ℕ) → 4 ≤ k → intersects (get_or masks (k - 1) 0) others ≡ true → intersects (get_or masks (k - 2) 0) others ≡ true
    → intersects (get_or masks (k - 3) 0) others ≡ true → intersects (get_or masks (k - 4) 0) others ≡ true → Sharing masks others (k - 4) k
four_sharing masks others k l a b c d i m h =
    elim (dec_le (k - 1) i) [
      | yes p ↦ let e : i ≡ k - 1 = omega arith in rw e a
      | no p ↦
          elim (dec_le (k - 2) i) [
            | yes q ↦ let e : i ≡ k - 2 = omega arith in rw e b
            | no q ↦
                elim (dec_le (k - 3) i) [
                  | yes r ↦ let e : i ≡ k - 3 = omega arith in rw e c
                  | no r ↦ let e : i ≡ k - 4 = omega arith in rw e d
                ]
          ]
    ]

module _ (conditions absences : List ℕ) (c : Condition) where
  -- ---- the steps

  pub newest_none : None ≡ newest_weaker conditions absences 0 c
  unfolding newest_weaker
  newest_none = refl

  -- both masks of an entry are looked at, the second only where the first is a part
  module _ (k : ℕ) where
    pub part_both : subset (get_or conditions k 0) c.present ≡ true → subset (get_or absences k 0) c.absent ≡ true
        → weaker (condition_at conditions absences k) c ≡ true
    unfolding weaker
    part_both p q = rw (p, q)

    pub first_other : subset (get_or conditions k 0) c.present ≡ false → weaker (condition_at conditions absences k) c ≡ false
    unfolding weaker
    first_other p = rw p

    pub second_other : subset (get_or absences k 0) c.absent ≡ false → weaker (condition_at conditions absences k) c ≡ false
    unfolding weaker
    second_other q = none (subset (get_or conditions k 0) c.present) _ q
      where
        none : (a b : Bool) → b ≡ false → (a && b) ≡ false
        none true b e = e
        none false b e = refl

  module _ (k : ℕ) where
    pub newest_met : weaker (condition_at conditions absences k) c ≡ true → Some k ≡ newest_weaker conditions absences (suc k) c
    unfolding newest_weaker
    newest_met e = rw e

    pub newest_other : weaker (condition_at conditions absences k) c ≡ false → newest_weaker conditions absences k c ≡ newest_weaker conditions absences (suc k) c
    unfolding newest_weaker
    newest_other e = rw e

  -- masks that have facts which the condition does not want held are no parts, and are passed over
  pub passed_over : (n k : ℕ) → ((i : ℕ) → get_or conditions i 0 < 2 ^ 64) → k ≤ n → Sharing conditions (others c.present) k n
      → newest_weaker conditions absences k c ≡ newest_weaker conditions absences n c
  passed_over zero k fits l h = let e : k ≡ 0 = omega arith in rw e
  passed_over (suc n) k fits l h =
      elim (dec_le k n) [
        | yes m ↦ passed_over n k fits m (λ i a b. h i a (omega arith)) ∙ newest_other n (first_other n (no_part (h n m (omega arith))))
        | no m ↦ let e : k ≡ suc n = omega arith in rw e
      ]
    where
      no_part : intersects (get_or conditions n 0) (others c.present) ≡ true → subset (get_or conditions n 0) c.present ≡ false
      no_part e = turned _ (sym (part_others (get_or conditions n 0) c.present (fits n)) ∙ e)

  -- ---- the answers

  pub found_newest : (n k : ℕ) → newest_weaker conditions absences n c ≡ Some k → Newest conditions absences n c k
  found_newest zero k e = absurd (found_nowhere (sym e ∙ sym newest_none))
  found_newest (suc n) k e = by (weaker (condition_at conditions absences n) c) refl (found_newest n k)
    where
      by : (b : Bool) → weaker (condition_at conditions absences n) c ≡ b → (newest_weaker conditions absences n c ≡ Some k → Newest conditions absences n c k) → Newest conditions absences (suc n) c k
      by true w older =
          let q : Some n ≡ Some k = newest_met n w ∙ e in
          let x : n ≡ k = cc in
          record { is_listed = omega arith; is_part = rw x at (holds _ w); no_newer = λ i l h t. omega arith }
      by false w older =
          let m = older (newest_other n w ∙ e) in
          record {
            is_listed = omega (arith, m.is_listed);
            is_part = m.is_part;
            no_newer = λ i l h t.
                elim (dec_le n i) [
                  | yes a ↦ let x : i ≡ n = omega arith in absurd (rw (x, w) at t)
                  | no a ↦ m.no_newer i l (omega arith) t
                ];
          }

  -- None is answered exactly where no listed condition is a part.
  pub nowhere_none : (n : ℕ) → newest_weaker conditions absences n c ≡ None → (i : ℕ) → i < n → T (weaker (condition_at conditions absences i) c) → ⊥
  nowhere_none zero e i h t = not-suc-le-zero h
  nowhere_none (suc n) e i h t = by (weaker (condition_at conditions absences n) c) refl (λ q l. nowhere_none n q i l t)
    where
      by : (b : Bool) → weaker (condition_at conditions absences n) c ≡ b → (newest_weaker conditions absences n c ≡ None → i < n → ⊥) → ⊥
      by true w older = found_nowhere (newest_met n w ∙ e)
      by false w older =
          elim (dec_le n i) [
            | yes a ↦ let x : i ≡ n = omega arith in absurd (rw (x, w) at t)
            | no a ↦ older (newest_other n w ∙ e) (omega arith)
          ]

  pub none_nowhere : (n : ℕ) → ((i : ℕ) → i < n → T (weaker (condition_at conditions absences i) c) → ⊥) → newest_weaker conditions absences n c ≡ None
  none_nowhere n none = by (newest_weaker conditions absences n c) refl
    where
      by : (f : (Option ℕ)) → newest_weaker conditions absences n c ≡ f → f ≡ None
      by (Some k) e = let m = found_newest n k e in absurd (none k m.is_listed m.is_part)
      by None e = refl

  -- ---- the promise

  pub searches : (n : ℕ) (found : (Option ℕ)) → found ≡ newest_weaker conditions absences n c → Searches conditions absences n c found
  searches n found e =
      record {
        answer = e;
        newest = λ k at. found_newest n k (sym e ∙ at);
        nowhere = ((λ at. nowhere_none n (sym e ∙ at)), (λ none. e ∙ none_nowhere n none));
      }
