-- What an accepted answer tells of the checks before it.
-- Assumes nothing.
use Rattle.std.specs.Prelude.{ℕ, zero, suc, ◌+◌, ◌<◌, ◌≡◌, refl, ◌⊎◌, Bool, true, false, List, [], ◌∷◌, ◌++◌, length, get_or, if◌then◌else◌, Result, Ok, Err, IsErr, IsErrAnd}
use Rattle.std.proofs.Common.{add-zero, arith, sym, ap, ◌∙◌, inl, inr}
use Rattle.std.proofs.Math.Decide.{dec_le}
use Rattle.base.specs.Lists.{prefix, length_prefix}
use Rattle.refusal.specs.declared.Refusal.{Refusal}
use Rattle.refusal.specs.Checked.{Checked, accepted, refused, and_then, checked_each, refused_by, answer_of, answer_by}

pub not_both : {A : Type 0} {a : A} {n p : ℕ} → refused n p ≡ accepted a → ⊥
not_both e = let z : ◌≡◌ {A = ℕ} 0 1 = cc in omega arith

pub accepted_same : {A : Type 0} {a b : A} → accepted a ≡ accepted b → a ≡ b
accepted_same e = cc

-- ---- a check after a check: the code's `?`

-- what is refused first is refused
pub then_refused : {A B : Type 0} {c : Checked A} {n p : ℕ} (k : A → Checked B) → refused n p ≡ c → refused n p ≡ and_then c k
then_refused k e = rw (← e)

-- and else the next check decides
pub then_next : {A B : Type 0} {c : Checked A} {a : A} {d : Checked B} (k : A → Checked B) → accepted a ≡ c → d ≡ k a → d ≡ and_then c k
then_next k e q = rw (← e, q)

-- the code answers the refusal that it was given
not_ok : {A : Type 0} (a : A) → (let r : Result A Refusal = Ok a in IsErr r) → ⊥
not_ok a e =
    let p : ◌≡◌ {A = Bool} false true = e in
    let z : ◌≡◌ {A = ℕ} 0 1 = ap (λ (b : Bool). if b then 1 else 0) p in
    omega arith

pub passed_on : {A : Type 0} (r : Result A Refusal) (x : Refusal) {d : Checked A} → IsErr r × IsErrAnd r (λ y. y ≡ x) → refused_by x ≡ d → answer_of r ≡ d
passed_on (Ok a) x h e = absurd (not_ok a h.0)
passed_on (Err y) x h e = rw h.1 e

pub passed_on_by : {A B : Type 0} (f : A → B) (r : Result A Refusal) (x : Refusal) {d : Checked B} → IsErr r × IsErrAnd r (λ y. y ≡ x) → refused_by x ≡ d
    → answer_by f r ≡ d
passed_on_by f (Ok a) x h e = absurd (not_ok a h.0)
passed_on_by f (Err y) x h e = rw h.1 e

pub accepted_then : {A B : Type 0} (r : Checked A) (k : A → Checked B) (b : B) → and_then r k ≡ accepted b → (a : A) × (r ≡ accepted a) × (k a ≡ accepted b)
accepted_then (accepted a) k b e = (a, refl, e)
accepted_then (refused n p) k b e = absurd (not_both e)

pub accepted_if : {A : Type 0} (t : Bool) (r : Checked A) (n p : ℕ) (a : A) → (if t then r else refused n p) ≡ accepted a → (t ≡ true) × (r ≡ accepted a)
accepted_if true r n p a e = (refl, e)
accepted_if false r n p a e = absurd (not_both e)

pub accepted_unless : {A : Type 0} (t : Bool) (r : Checked A) (n p : ℕ) (a : A) → (if t then refused n p else r) ≡ accepted a → (t ≡ false) × (r ≡ accepted a)
accepted_unless true r n p a e = absurd (not_both e)
accepted_unless false r n p a e = (refl, e)

-- ---- a check of each element

module _ {A B : Type 0} (check : ℕ → A → Checked B) where
  -- an element more, by what was found of those before it
  each_snoc : (at : ℕ) (l : List A) (x : A) → checked_each check at (l ++ (x ∷ []))
      ≡ (and_then (checked_each check at l) λ ys. and_then (check (at + length l) x) λ y. accepted (ys ++ (y ∷ [])))
  each_snoc at [] x = rw (add-zero at) (by_check (check at x))
    where
      by_check : (c : Checked B) → (and_then c λ y. accepted (y ∷ [])) ≡ (and_then c λ y. accepted ([] ++ (y ∷ [])))
      by_check (accepted y) = refl
      by_check (refused n p) = refl
  each_snoc at (z ∷ l) x =
      let next : suc at + length l ≡ at + suc (length l) = omega arith in
      rw (each_snoc (suc at) l x, next) (by_checks (check at z) (checked_each check (suc at) l) (check (at + suc (length l)) x))
    where
      by_checks : (c : Checked B) (d : Checked (List B)) (e : Checked B)
          → (and_then c λ y. and_then (and_then d λ ys. and_then e λ w. accepted (ys ++ (w ∷ []))) λ ys. accepted (y ∷ ys))
          ≡ (and_then (and_then c λ y. and_then d λ ys. accepted (y ∷ ys)) λ ys. and_then e λ w. accepted (ys ++ (w ∷ [])))
      by_checks (accepted y) (accepted ys) (accepted w) = refl
      by_checks (accepted y) (accepted ys) (refused n p) = refl
      by_checks (accepted y) (refused n p) e = refl
      by_checks (refused n p) d e = refl

  -- where all pass, each does
  pub each_told : (at : ℕ) (l : List A) (ys : List B) → checked_each check at l ≡ accepted ys → (i : ℕ) (d : A) → i < length l
      → (y : B) × (check (at + i) (get_or l i d) ≡ accepted y)
  each_told at [] ys e i d h = absurd (omega arith)
  each_told at (x ∷ l) ys e zero d h =
      let (y, first, rest) = accepted_then (check at x) _ ys e in
      (y, ap (λ (k : ℕ). check k x) (add-zero at) ∙ first)
  each_told at (x ∷ l) ys e (suc i) d h =
      let (y, first, rest) = accepted_then (check at x) _ ys e in
      let (zs, others, same) = accepted_then (checked_each check (suc at) l) _ ys rest in
      let (z, told) = each_told (suc at) l zs others i d (omega arith) in
      let next : at + suc i ≡ suc at + i = omega arith in
      (z, ap (λ (k : ℕ). check k (get_or l i d)) next ∙ told)

  -- where they do not, the first does not, or those after it do not
  pub refused_each : (at : ℕ) (x : A) (l : List A) (n p : ℕ) → checked_each check at (x ∷ l) ≡ refused n p
      → (check at x ≡ refused n p) ⊎ (checked_each check (suc at) l ≡ refused n p)
  refused_each at x l n p = by_checks (check at x) (checked_each check (suc at) l)
    where
      by_checks : (c : Checked B) (d : Checked (List B)) → (and_then c λ y. and_then d λ ys. accepted (y ∷ ys)) ≡ refused n p → (c ≡ refused n p) ⊎ (d ≡ refused n p)
      by_checks (accepted y) (accepted ys) e = absurd (not_both (sym e))
      by_checks (accepted y) (refused m q) e = inr (cc)
      by_checks (refused m q) d e = inl (cc)

  -- the first n values of a function: all pass, or the first that does not is told
  module _ (f : ℕ → A) (g : ℕ → B) where
    next_checked : (n : ℕ) (c : Checked (List B)) → checked_each check 0 (prefix f n) ≡ c
        → checked_each check 0 (prefix f (suc n)) ≡ (and_then c λ ys. and_then (check n (f n)) λ y. accepted (ys ++ (y ∷ [])))
    next_checked n c e =
        let here : 0 + length (prefix f n) ≡ n = omega (arith, length_prefix f n) in
        each_snoc 0 (prefix f n) (f n) ∙ rw (e, here)

    pub each_passed : (n : ℕ) → ((i : ℕ) → i < n → check i (f i) ≡ accepted (g i)) → checked_each check 0 (prefix f n) ≡ accepted (prefix g n)
    each_passed zero h = refl
    each_passed (suc n) h = next_checked n (accepted (prefix g n)) (each_passed n (λ i l. h i (omega arith))) ∙ rw (h n (omega arith))

    pub each_refused : (i number place : ℕ) → ((j : ℕ) → j < i → check j (f j) ≡ accepted (g j)) → check i (f i) ≡ refused number place
        → (n : ℕ) → i < n → checked_each check 0 (prefix f n) ≡ refused number place
    each_refused i number place h e zero l = absurd (omega arith)
    each_refused i number place h e (suc n) l =
        elim (dec_le n i) [
          | yes k ↦
              let last : n ≡ i = omega arith in
              next_checked n (accepted (prefix g n)) (each_passed n (λ j m. h j (omega arith))) ∙ rw (last, e)
          | no k ↦ next_checked n (refused number place) (each_refused i number place h e n (omega arith))
        ]
