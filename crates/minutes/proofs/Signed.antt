-- Quotient and remainder of a signed number by 60, rounded toward zero, and the minutes that they give, sign by sign.
-- Assumes nothing.
use Prim.Native.Nat.{ℕ, zero, suc, ◌+◌, ◌-◌, ◌/◌, ◌%◌, ◌^◌, ◌≤◌, ◌<◌}
use native.Mathlib.Omega.{arith}
use native.Mathlib.Nat.{div-le_self, eq-or-lt_of_le}
use mathlib.Core.Logic.{inl, inr}
use mathlib.Core.Path.{◌≡◌, refl, sym, ap, ◌∙◌}
use mathlib.Core.Bool.{Bool, true, false, cond}
use borrow.Author.Tests.{ltb-true, ltb-false}
use lib.Dec.{ltb}
use lib.IntN.{ℤ, pos, negsuc, neg_ℤ, nat_abs, sub_ℕ, ◌+ℤ◌, ◌-ℤ◌, neg_ℤ-+ℤ, pos-ne-negsuc}
use lib.Signed.{mag, lt_z, quot_z, rem_z, mag_rem}
use mir.Syntax.{w64}
use mir.Val.{SFits, of_z, to_z}
use mir.Facts.{to_z-of_z}
use Rattle.minutes.specs.Minutes.{nearest, minutes_of}
use Rattle.minutes.proofs.MinutesLaws.{nearest_up, nearest_half, nearest_down, nearest_is}

-- ---- all fit 64 bits

fits : {z : ℤ} → mag z < 2 ^ 63 → SFits w64 z
fits h = record { sfits = h }

mag_neg : (k n : ℕ) → 0 < n → k ≤ n → mag (neg_ℤ (pos k)) < n
mag_neg zero n p h = p
mag_neg (suc k) n p h = h

quot_fits : (d : ℕ) (z : ℤ) → SFits w64 z → SFits w64 (quot_z z (pos d))
quot_fits d (pos n) f = let h : n < 2 ^ 63 = f.sfits in fits (omega (arith, div-le_self n d))
quot_fits d (negsuc n) f = let h : n < 2 ^ 63 = f.sfits in fits (mag_neg (suc n / d) (2 ^ 63) (omega arith) (omega (arith, div-le_self (suc n) d)))

rem_fits : (d : ℕ) (z : ℤ) → SFits w64 z → SFits w64 (rem_z z (pos d))
rem_fits d z f = let h : mag z < 2 ^ 63 = f.sfits in fits (omega (arith, mag_rem z (pos d)))

minutes_fit : (z : ℤ) → SFits w64 z → SFits w64 (minutes_of z)
unfolding minutes_of
minutes_fit (pos n) f = let h : n < 2 ^ 63 = f.sfits in fits (omega (arith, (nearest_is n).above))
minutes_fit (negsuc n) f = let h : n < 2 ^ 63 = f.sfits in fits (mag_neg (nearest (suc n)) (2 ^ 63) (omega arith) (omega (arith, (nearest_is (suc n)).above)))

mag_difference : (a b : ℕ) → mag (sub_ℕ a b) ≤ a + b
mag_difference a b = by_order (ltb a b)
  where
    by_order : (t : Bool) → mag (cond t (negsuc (b - suc a)) (pos (a - b))) ≤ a + b
    by_order true = omega arith
    by_order false = omega arith

mag_sum : (a b : ℤ) → mag (a +ℤ b) ≤ suc (mag a + mag b)
mag_sum (pos a) (pos b) = omega arith
mag_sum (pos a) (negsuc b) = omega (arith, mag_difference a (suc b))
mag_sum (negsuc a) (pos b) = omega (arith, mag_difference b (suc a))
mag_sum (negsuc a) (negsuc b) = omega arith

mag_quotient : (z : ℤ) → SFits w64 z → mag (quot_z z (pos 60)) < 2 ^ 62
mag_quotient (pos n) f = let h : n < 2 ^ 63 = f.sfits in omega arith
mag_quotient (negsuc n) f = let h : n < 2 ^ 63 = f.sfits in mag_neg (suc n / 60) (2 ^ 62) (omega arith) (omega arith)

-- ---- the tests of the rest, sign by sign, and the minutes

never : false ≡ true → ⊥
never e = let z : ◌≡◌ {A = ℕ} 0 1 = cc in omega arith

-- a number below zero, against the half above zero and the half below it
not_above : (k : ℕ) → lt_z (pos 30) (neg_ℤ (pos k)) ≡ true → ⊥
not_above zero t = omega (arith, ltb-true 30 0 t)
not_above (suc k) t = never t

not_half : (k : ℕ) → neg_ℤ (pos k) ≡ pos 30 → ⊥
not_half zero e = omega (arith, ap nat_abs e)
not_half (suc k) e = pos-ne-negsuc 30 k (sym e)

beyond : (k : ℕ) → lt_z (neg_ℤ (pos k)) (negsuc 29) ≡ true → 30 < k
beyond zero t = absurd (never t)
beyond (suc k) t = omega (arith, ltb-true 29 k t)

within : (k : ℕ) → lt_z (neg_ℤ (pos k)) (negsuc 29) ≡ false → k ≤ 30
within zero t = omega arith
within (suc k) t = omega (arith, ltb-false 29 k t)

short : (k : ℕ) → k ≤ 30 → (k ≡ 30 → ⊥) → k < 30
short k h d = elim (eq-or-lt_of_le h) [ inl e ↦ absurd (d e) | inr l ↦ l ]

less_one : (k : ℕ) → neg_ℤ (pos k) -ℤ pos 1 ≡ neg_ℤ (pos (suc k))
less_one zero = refl
less_one (suc k) = ap negsuc (omega arith)

-- the even one of a number below zero and its neighbour farther from zero
even_one : (k : ℕ) → neg_ℤ (pos k) +ℤ rem_z (neg_ℤ (pos k)) (pos 2) ≡ neg_ℤ (pos (k + k % 2))
even_one zero = refl
even_one (suc k) = sym (neg_ℤ-+ℤ (pos (suc k)) (pos (suc k % 2)))

abs_neg : (k : ℕ) → nat_abs (neg_ℤ (pos k)) ≡ k
abs_neg zero = refl
abs_neg (suc k) = refl

abbrev quotient : ℤ → ℤ
quotient z = quot_z z (pos 60)

abbrev remainder : ℤ → ℤ
remainder z = rem_z z (pos 60)

rest_up : (z : ℤ) → lt_z (pos 30) (remainder z) ≡ true → quotient z +ℤ pos 1 ≡ minutes_of z
unfolding minutes_of
rest_up (pos n) t = rw (nearest_up n (ltb-true 30 (n % 60) t)) (ap pos (omega arith))
rest_up (negsuc n) t = absurd (not_above (suc n % 60) t)

rest_down : (z : ℤ) → lt_z (remainder z) (negsuc 29) ≡ true → quotient z -ℤ pos 1 ≡ minutes_of z
unfolding minutes_of
rest_down (pos n) t = absurd (never t)
rest_down (negsuc n) t = rw (nearest_up (suc n) (beyond (suc n % 60) t)) (less_one (suc n / 60))

-- an exact half: the remainder without its sign is 30
pub data Half (z : ℤ) : Type 0 where
  over : remainder z ≡ pos 30 → Half z
  under : remainder z ≡ negsuc 29 → Half z

rest_half : (z : ℤ) → Half z → quotient z +ℤ rem_z (quotient z) (pos 2) ≡ minutes_of z
unfolding minutes_of
rest_half (pos n) (over e) = rw (nearest_half n (ap nat_abs e))
rest_half (pos n) (under e) = absurd (pos-ne-negsuc (n % 60) 29 e)
rest_half (negsuc n) (over e) = absurd (not_half (suc n % 60) e)
rest_half (negsuc n) (under e) = rw (nearest_half (suc n) (sym (abs_neg (suc n % 60)) ∙ ap nat_abs e)) (even_one (suc n / 60))

rest_less : (z : ℤ) → lt_z (pos 30) (remainder z) ≡ false → lt_z (remainder z) (negsuc 29) ≡ false → (Half z → ⊥) → quotient z ≡ minutes_of z
unfolding minutes_of
rest_less (pos n) t u d = rw (nearest_down n (short (n % 60) (ltb-false 30 (n % 60) t) (λ e. d (over (ap pos e)))))
rest_less (negsuc n) t u d = rw (nearest_down (suc n) (short (suc n % 60) (within (suc n % 60) u) (λ e. d (under (ap (λ k. neg_ℤ (pos k)) e)))))

-- ---- the same of the numbers as the machine holds them

abbrev held : ℤ → ℤ
held z = to_z w64 (of_z w64 z)

module _ (z : ℤ) (f : SFits w64 z) where
  pub quot_held : (d : ℕ) → SFits w64 (quot_z (held z) (pos d))
  quot_held d = rw (to_z-of_z f) (quot_fits d z f)

  pub again_held : (d : ℕ) → SFits w64 (quot_z (held (quotient (held z))) (pos d))
  again_held d = rw (to_z-of_z f, to_z-of_z (quot_fits 60 z f)) (quot_fits d (quotient z) (quot_fits 60 z f))

  -- a quotient by 60 leaves room for what is as small
  pub sum_fits : (x : ℤ) → mag x < 2 ^ 62 → SFits w64 (held (quotient (held z)) +ℤ x)
  sum_fits x h = rw (to_z-of_z f, to_z-of_z (quot_fits 60 z f)) (fits (omega (arith, mag_sum (quotient z) x, mag_quotient z f)))

  pub rest_fits : (d : ℕ) → mag (held (rem_z (held (quotient (held z))) (pos d))) < 2 ^ 62
  rest_fits d =
      let q : SFits w64 (quotient z) = quot_fits 60 z f in
      rw (to_z-of_z f, to_z-of_z q, to_z-of_z (rem_fits d (quotient z) q)) (omega (arith, mag_rem (quotient z) (pos d), mag_quotient z f))

  pub up : lt_z (pos 30) (held (remainder (held z))) ≡ true → held (quotient (held z)) +ℤ pos 1 ≡ minutes_of z
  up t =
      let r : lt_z (pos 30) (remainder z) ≡ true = rw (to_z-of_z f, to_z-of_z (rem_fits 60 z f)) at t in
      rw (to_z-of_z f, to_z-of_z (quot_fits 60 z f)) (rest_up z r)

  pub down : lt_z (held (remainder (held z))) (negsuc 29) ≡ true → held (quotient (held z)) -ℤ pos 1 ≡ minutes_of z
  down t =
      let r : lt_z (remainder z) (negsuc 29) ≡ true = rw (to_z-of_z f, to_z-of_z (rem_fits 60 z f)) at t in
      rw (to_z-of_z f, to_z-of_z (quot_fits 60 z f)) (rest_down z r)

  pub even : Half z → held (quotient (held z)) +ℤ held (rem_z (held (quotient (held z))) (pos 2)) ≡ minutes_of z
  even h =
      let q : SFits w64 (quotient z) = quot_fits 60 z f in
      rw (to_z-of_z f, to_z-of_z q, to_z-of_z (rem_fits 2 (quotient z) q)) (rest_half z h)

  pub less : lt_z (pos 30) (held (remainder (held z))) ≡ false → lt_z (held (remainder (held z))) (negsuc 29) ≡ false → (Half z → ⊥)
      → held (quotient (held z)) ≡ minutes_of z
  less t u d =
      let r : lt_z (pos 30) (remainder z) ≡ false = rw (to_z-of_z f, to_z-of_z (rem_fits 60 z f)) at t in
      let q : lt_z (remainder z) (negsuc 29) ≡ false = rw (to_z-of_z f, to_z-of_z (rem_fits 60 z f)) at u in
      rw (to_z-of_z f, to_z-of_z (quot_fits 60 z f)) (rest_less z r q d)

  -- the minutes are held as they are
  pub minutes_held : {s : ℤ} → s ≡ minutes_of z → held s ≡ minutes_of z
  minutes_held e = rw e (to_z-of_z (minutes_fit z f))

  pub up_held : lt_z (pos 30) (held (remainder (held z))) ≡ true → held (held (quotient (held z)) +ℤ pos 1) ≡ minutes_of z
  up_held t = minutes_held (up t)

  pub down_held : lt_z (held (remainder (held z))) (negsuc 29) ≡ true → held (held (quotient (held z)) -ℤ pos 1) ≡ minutes_of z
  down_held t = minutes_held (down t)

  -- `==` compares the bits
  pub tested : (b : ℕ) → of_z w64 (remainder (held z)) ≡ b → remainder z ≡ to_z w64 b
  tested b t = sym (to_z-of_z (rem_fits 60 z f)) ∙ ap (to_z w64) (rw (to_z-of_z f) at t)

  pub untested : (r : ℤ) → remainder z ≡ r → of_z w64 (remainder (held z)) ≡ of_z w64 r
  untested r e = rw (to_z-of_z f) (ap (of_z w64) e)

  pub less_held : lt_z (pos 30) (held (remainder (held z))) ≡ false → lt_z (held (remainder (held z))) (negsuc 29) ≡ false
      → (of_z w64 (remainder (held z)) ≡ 30 → ⊥) → (of_z w64 (remainder (held z)) ≡ 2 ^ 64 - 30 → ⊥) → held (quotient (held z)) ≡ minutes_of z
  less_held t u above below = less t u not_half
    where
      not_half : Half z → ⊥
      not_half (over e) = above (untested (pos 30) e)
      not_half (under e) = below (untested (negsuc 29) e)
