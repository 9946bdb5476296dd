-- Sets read fact by fact. A bit is 0 or 1, so union, difference and subset are `max`, `-` and `≤` at each bit, which `omega` reads;
-- every law of sets is then one line over a single bit, and holds for any number of facts.
-- Assumes nothing.
use Rattle.std.specs.Prelude.{◌≡◌, refl, Bool, true, false, not, ℕ, zero, suc, ◌+◌, ◌-◌, ◌*◌, ◌/◌, ◌^◌, ◌≤◌, ◌<◌, min, max, T, eqb}
use Rattle.std.proofs.Common.{sym, ap, ◌∙◌, pow-suc, arith, eqb→eq, ltb→lt, lt→ltb}
use Rattle.std.proofs.Math.Arith.{bin_ind}
use Rattle.std.specs.Int.Bits.{bit_and, bit_or, and_step, or_step}
use Rattle.std.proofs.lemmas.Nat.{and_le_l}
use Rattle.std.proofs.Math.Dec.{eqb_refl}
use Rattle.masks.specs.Sets.{bit, subset, intersects, union, difference, within}

pub bit_le : (a i : ℕ) → bit a i ≤ 1
unfolding bit
bit_le a zero = omega arith
bit_le a (suc i) = bit_le (a / 2) i

pub bit_empty : (i : ℕ) → bit 0 i ≡ 0
unfolding bit
bit_empty zero = refl
bit_empty (suc i) = bit_empty i

-- ---- each operation, at one bit

and_half : (a b : ℕ) → bit_and a b / 2 ≡ bit_and (a / 2) (b / 2)
and_half a b = omega (arith, and_step a b)

or_half : (a b : ℕ) → bit_or a b / 2 ≡ bit_or (a / 2) (b / 2)
or_half a b = omega (arith, or_step a b)

less_half : (a b : ℕ) → (a - bit_and a b) / 2 ≡ a / 2 - bit_and (a / 2) (b / 2)
less_half a b = omega (arith, and_step a b, and_le_l (a / 2) (b / 2))

bit_of_and : (a b i : ℕ) → bit (bit_and a b) i ≡ min (bit a i) (bit b i)
unfolding bit
bit_of_and a b zero = omega (arith, and_step a b)
bit_of_and a b (suc i) = rw (and_half a b) (bit_of_and (a / 2) (b / 2) i)

pub bit_union : (a b i : ℕ) → bit (union a b) i ≡ max (bit a i) (bit b i)
unfolding bit union
bit_union a b zero = omega (arith, or_step a b)
bit_union a b (suc i) = rw (or_half a b) (bit_union (a / 2) (b / 2) i)

pub bit_difference : (a b i : ℕ) → bit (difference a b) i ≡ bit a i - bit b i
unfolding bit difference
bit_difference a b zero = omega (arith, and_step a b, and_le_l (a / 2) (b / 2))
bit_difference a b (suc i) = rw (less_half a b) (bit_difference (a / 2) (b / 2) i)

-- what each fact of a set is, by the facts of the sets that it is made of
pub ruleset bits = (bit_union, bit_difference, bit_empty)

-- sets with the same facts are equal
pub same_bits : (a b : ℕ) → ((i : ℕ) → bit a i ≡ bit b i) → a ≡ b
unfolding bit
same_bits =
    bin_ind (λ (n : ℕ). (b : ℕ) → ((i : ℕ) → bit n i ≡ bit b i) → n ≡ b)
    (bin_ind (λ (b : ℕ). ((i : ℕ) → bit 0 i ≡ bit b i) → 0 ≡ b) (λ h. refl)
    (λ b ih h. omega (arith, h 0, ih (λ i. bit_empty i ∙ sym (bit_empty (suc i)) ∙ h (suc i)))))
    (λ n ih b h. omega (arith, h 0, ih (b / 2) (λ i. h (suc i))))

-- ---- each test, at every bit

pub subset_bits : (a b : ℕ) → T (subset a b) → (i : ℕ) → bit a i ≤ bit b i
unfolding subset
subset_bits a b t i = omega (arith, bit_of_and a b i, ap (λ (n : ℕ). bit n i) (eqb→eq (bit_and a b) a t))

pub bits_subset : (a b : ℕ) → ((i : ℕ) → bit a i ≤ bit b i) → T (subset a b)
unfolding subset
bits_subset a b h = rw (same_bits (bit_and a b) a (λ i. omega (arith, bit_of_and a b i, h i))) (eqb_refl a)

-- disjoint sets: `T (not (intersects a b))`
pub disjoint_bits : (a b : ℕ) → T (not (intersects a b)) → (i : ℕ) → bit a i + bit b i ≤ 1
unfolding intersects
disjoint_bits a b t i =
    let e : bit_and a b ≡ 0 = eqb→eq (bit_and a b) 0 (twice (eqb (bit_and a b) 0) t) in
    omega (arith, bit_le a i, bit_le b i, bit_of_and a b i, bit_empty i, ap (λ (n : ℕ). bit n i) e)
  where
    twice : (b : Bool) → T (not (not b)) → T b
    twice true t = tt
    twice false t = t

pub bits_disjoint : (a b : ℕ) → ((i : ℕ) → bit a i + bit b i ≤ 1) → T (not (intersects a b))
unfolding intersects
bits_disjoint a b h = rw (same_bits (bit_and a b) 0 (λ i. omega (arith, bit_of_and a b i, bit_empty i, h i))) tt

-- a set is within F exactly where no bit at or above F is 1

lt_bits : (f a i : ℕ) → a < 2 ^ f → f ≤ i → bit a i ≡ 0
unfolding bit
lt_bits zero a i h l = let e : a ≡ 0 = omega arith in rw e (bit_empty i)
lt_bits (suc f) a zero h l = absurd (omega arith)
lt_bits (suc f) a (suc i) h l = let k : a < 2 ^ f * 2 = rw pow-suc at h in lt_bits f (a / 2) i (omega arith) (omega arith)

bits_lt : (f a : ℕ) → ((i : ℕ) → f ≤ i → bit a i ≡ 0) → a < 2 ^ f
unfolding bit
bits_lt zero a h = let e : a ≡ 0 = same_bits a 0 (λ i. h i (omega arith) ∙ sym (bit_empty i)) in omega arith
bits_lt (suc f) a h = let k : a / 2 < 2 ^ f = bits_lt f (a / 2) (λ i l. h (suc i) (omega arith)) in rw pow-suc (omega arith)

pub within_bits : (f a : ℕ) → T (within f a) → (i : ℕ) → f ≤ i → bit a i ≡ 0
unfolding within
within_bits f a t i = lt_bits f a i (ltb→lt a (2 ^ f) t)

pub bits_within : (f a : ℕ) → ((i : ℕ) → f ≤ i → bit a i ≡ 0) → T (within f a)
unfolding within
bits_within f a h = lt→ltb a (2 ^ f) (bits_lt f a h)
