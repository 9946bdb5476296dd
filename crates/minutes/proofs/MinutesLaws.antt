-- What the rule for whole minutes comes to, and its values around zero and at the ends.
-- Assumes nothing.
use Prim.Native.Nat.{ℕ, zero, suc, ◌+◌, ◌*◌, ◌/◌, ◌%◌, ◌≤◌, ◌<◌, compare, Ordering}
use Rattle.std.proofs.Common.{arith, eq-or-lt_of_le, inl, inr, sym}
use Rattle.std.specs.Prelude.{◌≡◌, refl, Bool, true, false, [], ◌∷◌, map, leb, ℤ, pos, negsuc, neg_ℤ}
use borrow.Author.Tests.{leb-true, leb-false, eqb-true, eqb-false, le-leb, lt-leb, ne_eqb}
use Rattle.std.proofs.Math.IntN.{neg_ℤ-neg_ℤ}
use Rattle.std.specs.Float.Ieee as ieee
use Rattle.std.specs.Float.Ieee.Nearest.{closest, closest_mono}
use Rattle.minutes.specs.Minutes.{nearest, minutes_of}
use Rattle.minutes.specs.NearestMinute.{Nearest}

-- ---- the three ways through the rule

module _ (n : ℕ) where
  pub nearest_up : 30 < n % 60 → nearest n ≡ suc (n / 60)
  unfolding nearest
  nearest_up h = rw (le-leb 31 (n % 60) h)

  pub nearest_half : n % 60 ≡ 30 → nearest n ≡ n / 60 + n / 60 % 2
  unfolding nearest
  nearest_half h = rw h

  pub nearest_down : n % 60 < 30 → nearest n ≡ n / 60
  unfolding nearest
  nearest_down h = rw (lt-leb 31 (n % 60) (omega arith), ne_eqb (n % 60) 30 (λ e. omega arith))

-- the rest of a minute, against its half
data Rest (r : ℕ) : Type 0 where
  past : 30 < r → Rest r
  half : r ≡ 30 → Rest r
  short : r < 30 → Rest r

rest : (r : ℕ) → Rest r
rest r = split (leb 31 r) refl
  where
    split : (t : Bool) → leb 31 r ≡ t → Rest r
    split true e = past (leb-true 31 r e)
    split false e =
        let h : r ≤ 30 = omega (arith, leb-false 31 r e) in
        elim (eq-or-lt_of_le h) [ inl q ↦ half q | inr l ↦ short l ]

pub nearest_is : (n : ℕ) → Nearest n (nearest n)
nearest_is n = elim (rest (n % 60)) [
  | past h ↦ rw (nearest_up n h) (record { above = omega arith; below = omega arith; even = λ e. omega arith })
  | half h ↦ rw (nearest_half n h) (record { above = omega arith; below = omega arith; even = λ e. omega arith })
  | short h ↦ rw (nearest_down n h) (record { above = omega arith; below = omega arith; even = λ e. omega arith })
]

-- two even numbers are no neighbours
even_only : (a b : ℕ) → a % 2 ≡ 0 → b % 2 ≡ 0 → a ≤ suc b → b ≤ suc a → a ≡ b
even_only a b p q h k = omega arith

pub nearest_only : (n a b : ℕ) → Nearest n a → Nearest n b → a ≡ b
nearest_only n a b p q = elim (rest (n % 60)) [
  | past h ↦ omega arith
  | half h ↦ even_only a b (p.even h) (q.even h) (omega arith) (omega arith)
  | short h ↦ omega arith
]

-- the library's rounding of a fraction, a tie to the even number
pub nearest_closest : (n : ℕ) → nearest n ≡ closest n 60
nearest_closest n = against (compare (n % 60 * 2) 60) refl
  where
    against : (o : Ordering) → compare (n % 60 * 2) 60 ≡ o → nearest n ≡ ieee.nearest (n / 60) o
    against Ordering.lt e =
        let h : n % 60 * 2 ≤ 60 = leb-true (n % 60 * 2) 60 (rw e) in
        let d : n % 60 * 2 ≡ 60 → ⊥ = eqb-false (n % 60 * 2) 60 (rw e) in
        nearest_down n (elim (rest (n % 60)) [ past p ↦ omega arith | half p ↦ absurd (d (omega arith)) | short p ↦ p ])
    against Ordering.eq e = let h : n % 60 * 2 ≡ 60 = eqb-true (n % 60 * 2) 60 (rw e) in nearest_half n (omega arith)
    against Ordering.gt e = let h : 60 < n % 60 * 2 = leb-false (n % 60 * 2) 60 (rw e) in nearest_up n (omega arith)

-- more seconds are no fewer minutes
pub nearest_mono : (a b : ℕ) → a ≤ b → nearest a ≤ nearest b
nearest_mono a b h = rw (nearest_closest a, nearest_closest b) (closest_mono a 60 b 60 (omega arith) (omega arith) (omega arith))

-- minutes are no more than the seconds
pub nearest_le : (n : ℕ) → nearest n ≤ n
nearest_le n = omega (arith, (nearest_is n).above, (nearest_is n).below)

-- below zero as above it
pub minutes_neg : (z : ℤ) → minutes_of (neg_ℤ z) ≡ neg_ℤ (minutes_of z)
unfolding minutes_of nearest
minutes_neg (pos zero) = refl
minutes_neg (pos (suc n)) = refl
minutes_neg (negsuc n) = sym (neg_ℤ-neg_ℤ _)

-- ---- values: document 02's own; one second to either side of a half, from an odd number of minutes and from an even one; the ends for the
-- difference of two 32-bit sums, with the last halves before them, and for 64 bits

pub named : map minutes_of (pos 1590 ∷ pos 150 ∷ pos 90 ∷ negsuc 149 ∷ []) ≡ pos 26 ∷ pos 2 ∷ pos 2 ∷ negsuc 1 ∷ []
unfolding minutes_of nearest
named = refl

pub around_zero : map minutes_of
    (negsuc 90 ∷ negsuc 89 ∷ negsuc 88 ∷ negsuc 30 ∷ negsuc 29 ∷ negsuc 28 ∷ pos 0 ∷ pos 29 ∷ pos 30 ∷ pos 31 ∷ pos 89 ∷ pos 90 ∷ pos 91 ∷ [])
    ≡ negsuc 1 ∷ negsuc 1 ∷ negsuc 0 ∷ negsuc 0 ∷ pos 0 ∷ pos 0 ∷ pos 0 ∷ pos 0 ∷ pos 0 ∷ pos 1 ∷ pos 1 ∷ pos 2 ∷ pos 2 ∷ []
unfolding minutes_of nearest
around_zero = refl

pub at_the_ends : map minutes_of
    (negsuc 4294967294 ∷ negsuc 4294967249 ∷ negsuc 4294967189 ∷ pos 4294967190 ∷ pos 4294967250 ∷ pos 4294967295 ∷ negsuc 9223372036854775807 ∷ pos 9223372036854775807 ∷ [])
    ≡ negsuc 71582787 ∷ negsuc 71582787 ∷ negsuc 71582785 ∷ pos 71582786 ∷ pos 71582788 ∷ pos 71582788 ∷ negsuc 153722867280912929 ∷ pos 153722867280912930 ∷ []
unfolding minutes_of nearest
at_the_ends = refl
