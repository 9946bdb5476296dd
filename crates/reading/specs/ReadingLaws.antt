-- Laws of readings and of the states that complete them.
-- Assumes nothing.
use Rattle.std.specs.Prelude.{ℕ, ◌≡◌, Bool, not, T, eqb, if◌then◌else◌}
use Rattle.std.proofs.Common.{arith}
use Rattle.std.proofs.Math.Path.{refl}
use Rattle.std.proofs.Math.Bool.{true, false}
use borrow.Author.Tests.{eq-eqb, ne_eqb}
use Rattle.base.specs.Bools.{and_intro, and_left, and_right}
use Rattle.refusal.specs.Checked.{Checked, accepted, refused, and_then}
use Rattle.refusal.specs.CheckedLaws.{accepted_if, accepted_same, accepted_then}
use Rattle.masks.specs.Sets.{intersects, union, within}
use Rattle.masks.specs.Bits.{bit_le, bit_union, bit_empty, subset_bits, bits_subset, bits_disjoint}
use Rattle.masks.specs.Laws.{subset_refl, subset_antisym, subset_union_left, within_subset, within_union, within_empty}
use Rattle.reading.specs.declared.Reading.{Reading}
use Rattle.reading.specs.Reading.{sound, checked_at, checked_start, Completes, state}

module _ (f : ℕ) (r : Reading) where
  pub sound_held : T (sound f r) → T (within f r.held)
  unfolding sound
  sound_held t = and_left (within f r.held) _ t

  pub sound_unread : T (sound f r) → T (within f r.unread)
  unfolding sound
  sound_unread t = and_left (within f r.unread) _ (and_right (within f r.held) _ t)

  pub sound_apart : T (sound f r) → T (not (intersects r.held r.unread))
  unfolding sound
  sound_apart t = and_right (within f r.unread) _ (and_right (within f r.held) _ t)

  -- the check of a reading tells whether it is sound, and gives it back as it is
  module _ (place : ℕ) where
    pub checked_sound : sound f r ≡ true → accepted r ≡ checked_at f place r
    unfolding checked_at
    checked_sound e = rw e

    pub checked_bad : sound f r ≡ false → refused 8 place ≡ checked_at f place r
    unfolding checked_at
    checked_bad e = rw e

    pub checked_told : (s : Reading) → checked_at f place r ≡ accepted s → (sound f r ≡ true) × (r ≡ s)
    unfolding checked_at
    checked_told s e = let (h, same) = accepted_if (sound f r) (accepted r) 8 place s e in (h, accepted_same same)

  -- a start for planning: what holds of both refusals and of the start itself holds of its check
  pub start_cases : (P : Checked Reading → Type 0) → P (refused 8 0) → P (refused 9 0) → (sound f r ≡ true → P (accepted r)) → P (checked_start f r)
  unfolding checked_start checked_at
  start_cases P bad unread whole = by_sound (sound f r) refl
    where
      by_unread : sound f r ≡ true → (b : Bool) → P (if b then accepted r else refused 9 0)
      by_unread e true = whole e
      by_unread e false = unread

      by_sound : (b : Bool) → sound f r ≡ b → P (and_then (if b then accepted r else refused 8 0) λ s. if eqb s.unread 0 then accepted s else refused 9 0)
      by_sound true e = by_unread e (eqb r.unread 0)
      by_sound false e = bad

  -- one that passed is sound
  pub start_told : (s : Reading) → checked_start f r ≡ accepted s → sound f r ≡ true
  unfolding checked_start
  start_told s e = let w = accepted_then (checked_at f 0 r) _ s e in (checked_told 0 w.0 w.1).0

  pub start_unsound : sound f r ≡ false → refused 8 0 ≡ checked_start f r
  unfolding checked_start
  start_unsound e = rw (← checked_bad 0 e)

  module _ (e : sound f r ≡ true) where
    pub start_unread : (r.unread ≡ 0 → ⊥) → refused 9 0 ≡ checked_start f r
    unfolding checked_start
    start_unread u = rw (← checked_sound 0 e, ne_eqb r.unread 0 u)

    pub start_sound : r.unread ≡ 0 → accepted r ≡ checked_start f r
    unfolding checked_start
    start_sound u = rw (← checked_sound 0 e, eq-eqb r.unread 0 u)

  -- a completed reading is a state
  pub completes_within : T (sound f r) → (s : ℕ) → Completes r s → T (within f s)
  completes_within t s c = within_subset f s (union r.held r.unread) c.adds_unread (within_union f r.held r.unread (sound_held t) (sound_unread t))

-- a reading is completed by taking all its unread facts as absent, or as held
pub absent_completes : (r : Reading) → Completes r r.held
absent_completes r = record { keeps_held = subset_refl r.held; adds_unread = subset_union_left r.held r.unread }

pub held_completes : (r : Reading) → Completes r (union r.held r.unread)
held_completes r = record { keeps_held = subset_union_left r.held r.unread; adds_unread = subset_refl (union r.held r.unread) }

-- where nothing is unread there is one way
pub state_completes : (s u : ℕ) → Completes (state s) u → s ≡ u
state_completes s u c =
    subset_antisym s u c.keeps_held (bits_subset u s (λ i. omega (arith, subset_bits u (union s 0) c.adds_unread i, bit_union s 0 i, bit_empty i)))

-- a state within F is a sound reading
pub state_sound : (f s : ℕ) → T (within f s) → T (sound f (state s))
unfolding sound
state_sound f s t =
    and_intro (within f s) _ t (and_intro (within f 0) _ (within_empty f) (bits_disjoint s 0 (λ i. omega (arith, bit_le s i, bit_empty i))))
