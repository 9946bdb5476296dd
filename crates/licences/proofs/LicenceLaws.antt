-- Laws of the licences: how a row is judged, turn by turn, and that each job is one fitter's alone.
-- Assumes nothing.
use Rattle.std.specs.Prelude.{ℕ, suc, ◌<◌, ◌≡◌, refl, Bool, true, false, not, List, [], ◌∷◌, eqb, length, get_or, if◌then◌else◌}
use Rattle.std.proofs.Math.Decide.{dec_le}
use Rattle.std.proofs.Common.{arith, sym, ◌∙◌, ⊎_elim, eq-eqb, ne_eqb}
use Rattle.std.proofs.Math.Path.{ap}
use Rattle.base.specs.Lists.{prefix, prefix_all}
use Rattle.refusal.specs.Checked.{accepted, refused, and_then, checked_each}
use Rattle.refusal.specs.CheckedLaws.{not_both, each_passed, each_refused, refused_each}
use Rattle.licences.specs.declared.Fitter.{Fitter}
use Rattle.licences.specs.declared.Fitter.TheVariants.{First, Second}
use Rattle.licences.specs.Licences.{is_licence, checked_licence, each_sound, checked_licences, is_fitter, other_than}

module _ (jobs : ℕ) (licences : List ℕ) where
  pub other_length : (length licences ≡ jobs → ⊥) → refused 24 0 ≡ checked_licences jobs licences
  unfolding checked_licences
  other_length n = rw (ne_eqb (length licences) jobs n)

  -- the licences before one are sound
  abbrev pub SoundTo : ℕ → Type 0
  SoundTo i = (j : ℕ) → j < i → is_licence (get_or licences j 0) ≡ true

  pub sound_next : (i : ℕ) → SoundTo i → is_licence (get_or licences i 0) ≡ true → SoundTo (suc i)
  sound_next i before here j h = elim (dec_le i j) [
    | yes k ↦ let same : i ≡ j = omega arith in rw same at here
    | no k ↦ before j (omega arith)
  ]

  module _ (e : length licences ≡ jobs) where
    -- the row is judged as its elements are
    row : (r : _) → checked_each checked_licence 0 (prefix (λ i. get_or licences i 0) (length licences)) ≡ r → r ≡ checked_licences jobs licences
    unfolding checked_licences
    row r q = rw (eq-eqb (length licences) jobs e) (sym q ∙ ap (checked_each checked_licence 0) (prefix_all licences 0))

    pub all_sound : SoundTo jobs → accepted licences ≡ checked_licences jobs licences
    all_sound s =
        row (accepted licences)
        (each_passed checked_licence (λ i. get_or licences i 0) (λ i. get_or licences i 0) (length licences) (λ i h. rw (s i (omega arith)))
        ∙ ap accepted (prefix_all licences 0))

    pub first_bad : (i : ℕ) → i < jobs → SoundTo i → is_licence (get_or licences i 0) ≡ false → refused 24 i ≡ checked_licences jobs licences
    first_bad i h s b =
        row (refused 24 i)
        (each_refused checked_licence (λ i. get_or licences i 0) (λ i. get_or licences i 0) i 24 i (λ j k. rw (s j k)) (rw b) (length licences) (omega arith))

-- a row that is refused is refused as 24
pub licences_number : (jobs : ℕ) (licences : List ℕ) (n p : ℕ) → checked_licences jobs licences ≡ refused n p → n ≡ 24
unfolding checked_licences
licences_number jobs licences n p = by_length (eqb (length licences) jobs)
  where
    by_licence : (b : Bool) (at x : ℕ) → (if b then accepted x else refused 24 at) ≡ refused n p → n ≡ 24
    by_licence true at x e = absurd (not_both (sym e))
    by_licence false at x e = cc

    by_row : (at : ℕ) (l : List ℕ) → checked_each checked_licence at l ≡ refused n p → n ≡ 24
    by_row at [] e = absurd (not_both (sym e))
    by_row at (x ∷ l) e = ⊎_elim (by_licence (is_licence x) at x) (by_row (suc at) l) (refused_each checked_licence at x l n p e)

    by_length : (b : Bool) → and_then (if b then accepted licences else refused 24 0) (each_sound jobs) ≡ refused n p → n ≡ 24
    by_length true e = by_row 0 licences e
    by_length false e = cc

-- ---- whose job it is

pub first_owns : (second : Bool) → not second ≡ is_fitter First (if second then Second else First)
first_owns true = refl
first_owns false = refl

pub second_owns : (second : Bool) → second ≡ is_fitter Second (if second then Second else First)
second_owns true = refl
second_owns false = refl

-- the owner has the job, and the other has not
pub owner_owns : (owner : Fitter) → is_fitter owner owner ≡ true
owner_owns First = refl
owner_owns Second = refl

pub other_owns_not : (owner : Fitter) → is_fitter (other_than owner) owner ≡ false
other_owns_not First = refl
other_owns_not Second = refl
