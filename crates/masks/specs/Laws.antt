-- The laws of sets that the other crates cite.
-- Assumes nothing.
use Rattle.std.specs.Prelude.{◌≡◌, refl, Bool, true, false, not, ◌&&◌, ℕ, ◌-◌, ◌*◌, ◌/◌, ◌^◌, ◌≤◌, ◌<◌, T, eqb, ltb}
use Rattle.std.proofs.Common.{sym, arith, div-lt_iff_lt-mul, one-mul, pow_pos, lt-ltb, eq-eqb, ne_eqb, ltb-false, ltb-true, T_not, ltb→lt, lt→ltb}
use Rattle.std.specs.Int.Bits.{bit_and}
use Rattle.std.proofs.lemmas.Nat.{and_mask}
use Rattle.std.proofs.Math.Dec.{not_T, eqb_refl}
use Rattle.base.specs.Bools.{holds, fails, is_true, is_false}
use Rattle.masks.specs.Sets.{subset, intersects, union, difference, others, within}
use Rattle.masks.specs.Bits.{bit_le, bit_empty, bits, same_bits, subset_bits, bits_subset, disjoint_bits, bits_disjoint, within_bits, bits_within}

-- ---- subset

pub subset_refl : (a : ℕ) → T (subset a a)
subset_refl a = bits_subset a a (λ i. omega arith)

pub subset_trans : (a b c : ℕ) → T (subset a b) → T (subset b c) → T (subset a c)
subset_trans a b c p q = bits_subset a c (λ i. omega (arith, subset_bits a b p i, subset_bits b c q i))

pub subset_antisym : (a b : ℕ) → T (subset a b) → T (subset b a) → a ≡ b
subset_antisym a b p q = same_bits a b (λ i. omega (arith, subset_bits a b p i, subset_bits b a q i))

pub empty_subset : (a : ℕ) → T (subset 0 a)
empty_subset a = bits_subset 0 a (λ i. simp bits (omega arith))

-- ---- union

pub subset_union_left : (a b : ℕ) → T (subset a (union a b))
subset_union_left a b = bits_subset a (union a b) (λ i. simp bits (omega arith))

pub subset_union_right : (a b : ℕ) → T (subset b (union a b))
subset_union_right a b = bits_subset b (union a b) (λ i. simp bits (omega arith))

pub union_subset : (a b c : ℕ) → T (subset a c) → T (subset b c) → T (subset (union a b) c)
union_subset a b c p q = bits_subset (union a b) c (λ i. simp bits (omega (arith, subset_bits a c p i, subset_bits b c q i)))

pub union_mono : (a b c d : ℕ) → T (subset a c) → T (subset b d) → T (subset (union a b) (union c d))
union_mono a b c d p q = bits_subset (union a b) (union c d) (λ i. simp bits (omega (arith, subset_bits a c p i, subset_bits b d q i)))

-- ---- difference

pub difference_subset : (a b : ℕ) → T (subset (difference a b) a)
difference_subset a b = bits_subset (difference a b) a (λ i. simp bits (omega arith))

pub difference_mono : (a b c d : ℕ) → T (subset a c) → T (subset d b) → T (subset (difference a b) (difference c d))
difference_mono a b c d p q =
    bits_subset (difference a b) (difference c d) (λ i. simp bits (omega (arith, subset_bits a c p i, subset_bits d b q i)))

pub difference_disjoint : (a b : ℕ) → T (not (intersects (difference a b) b))
difference_disjoint a b = bits_disjoint (difference a b) b (λ i. simp bits (omega (arith, bit_le a i, bit_le b i)))

pub difference_empty : (a : ℕ) → difference a 0 ≡ a
difference_empty a = same_bits (difference a 0) a (λ i. simp bits (omega arith))

-- ---- disjoint sets

pub disjoint_sym : (a b : ℕ) → T (not (intersects a b)) → T (not (intersects b a))
disjoint_sym a b t = bits_disjoint b a (λ i. omega (arith, disjoint_bits a b t i))

pub disjoint_subset : (a b c d : ℕ) → T (subset a c) → T (subset b d) → T (not (intersects c d)) → T (not (intersects a b))
disjoint_subset a b c d p q t = bits_disjoint a b (λ i. omega (arith, subset_bits a c p i, subset_bits b d q i, disjoint_bits c d t i))

-- ---- every fact but those of a set

every_part : (a : ℕ) → a < 2 ^ 64 → T (subset a (2 ^ 64 - 1))
unfolding subset
every_part a h = let e : bit_and a (2 ^ 64 - 1) ≡ a = omega (arith, and_mask a 64) in rw e (eqb_refl a)

-- a mask is a part of b exactly where it has none of the other facts
pub part_others : (a b : ℕ) → a < 2 ^ 64 → intersects a (others b) ≡ not (subset a b)
unfolding others
part_others a b h = by (subset a b) refl
  where
    not_not : (x : Bool) → (T (not x) → ⊥) → T x
    not_not true f = tt
    not_not false f = f tt

    by : (s : Bool) → subset a b ≡ s → intersects a (difference (2 ^ 64 - 1) b) ≡ not s
    by true e =
        is_false _ (bits_disjoint a _ (λ i.
        simp bits (omega (arith, subset_bits a b (holds _ e) i, bit_le a i, bit_le b i, bit_le (2 ^ 64 - 1) i))))
    by false e =
        is_true _ (not_not (intersects a (difference (2 ^ 64 - 1) b)) (λ t.
        T_not (subset a b) (fails _ e) (bits_subset a b (λ i.
        let d = simp bits at (disjoint_bits a _ t i) in omega (arith, d, subset_bits a (2 ^ 64 - 1) (every_part a h) i, bit_le a i, bit_le b i)))))

-- ---- sets within the number of facts

pub within_subset : (f a b : ℕ) → T (subset a b) → T (within f b) → T (within f a)
within_subset f a b p t = bits_within f a (λ i l. omega (arith, subset_bits a b p i, within_bits f b t i l))

pub within_union : (f a b : ℕ) → T (within f a) → T (within f b) → T (within f (union a b))
within_union f a b s t = bits_within f (union a b) (λ i l. simp bits (omega (arith, within_bits f a s i l, within_bits f b t i l)))

-- a union is within the facts exactly where both sets are
pub within_both : (f a b : ℕ) → within f (union a b) ≡ (within f a && within f b)
within_both f a b = by (within f a) refl (within f b) refl
  where
    part : (c : ℕ) → within f c ≡ false → T (subset c (union a b)) → within f (union a b) ≡ false
    part c e p = is_false _ (not_T (within f (union a b)) (λ t. T_not (within f c) (fails _ e) (within_subset f c (union a b) p t)))

    by : (x : Bool) → within f a ≡ x → (y : Bool) → within f b ≡ y → within f (union a b) ≡ (x && y)
    by true e true g = is_true _ (within_union f a b (holds _ e) (holds _ g))
    by true e false g = part b g (subset_union_right a b)
    by false e y g = part a e (subset_union_left a b)

pub within_difference : (f a b : ℕ) → T (within f a) → T (within f (difference a b))
within_difference f a b t = within_subset f (difference a b) a (difference_subset a b) t

pub within_empty : (f : ℕ) → T (within f 0)
within_empty f = bits_within f 0 (λ i l. bit_empty i)

pub within_wider : (f g a : ℕ) → f ≤ g → T (within f a) → T (within g a)
within_wider f g a h t = bits_within g a (λ i l. within_bits f a t i (omega arith))

pub within_lt : (f a : ℕ) → T (within f a) → a < 2 ^ f
unfolding within
within_lt f a t = ltb→lt a (2 ^ f) t

pub lt_within : (f a : ℕ) → a < 2 ^ f → T (within f a)
unfolding within
lt_within f a h = lt→ltb a (2 ^ f) h

-- a set of at most 64 facts is a 64-bit mask
pub within_word : (f a : ℕ) → f ≤ 64 → T (within f a) → a < 2 ^ 64
within_word f a h t = within_lt 64 a (within_wider f 64 a h t)

-- ---- how the test for it runs: a shift by the number of facts leaves nothing; past the width of the word nothing is left to test

pub within_shift : (f a : ℕ) → within f a ≡ eqb (a / 2 ^ f) 0
unfolding within
within_shift f a = split (ltb a (2 ^ f)) refl
  where
    small : a < 2 ^ f → a / 2 ^ f ≡ 0
    small h = let k : a / 2 ^ f < 1 = (div-lt_iff_lt-mul (pow_pos f)).1 (rw one-mul h) in omega arith

    large : 2 ^ f ≤ a → a / 2 ^ f ≡ 0 → ⊥
    large h e = let z : a / 2 ^ f < 1 = omega arith in let k : a < 1 * 2 ^ f = (div-lt_iff_lt-mul (pow_pos f)).0 z in let l : a < 2 ^ f = rw one-mul at k in omega arith

    split : (t : Bool) → ltb a (2 ^ f) ≡ t → t ≡ eqb (a / 2 ^ f) 0
    split true e = sym (eq-eqb (a / 2 ^ f) 0 (small (ltb-true a (2 ^ f) e)))
    split false e = sym (ne_eqb (a / 2 ^ f) 0 (large (ltb-false a (2 ^ f) e)))

pub word_within : (f a : ℕ) → a < 2 ^ 64 → 64 ≤ f → within f a ≡ true
unfolding within
word_within f a h l = lt-ltb a (2 ^ f) (within_lt f a (within_wider 64 f a l (lt_within 64 a h)))
