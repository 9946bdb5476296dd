-- Laws of a number's digits, over the base, and of how many a number has in decimal.
-- Assumes nothing.
use Rattle.std.proofs.Common.{lt-ltb, le-ltb, arith, pow-suc, mul-div_cancel, sym, ◌∙◌, append_assoc, append-nil}
use Rattle.std.proofs.Math.Decide.{dec_le}
use Rattle.std.proofs.Math.Nat.{pow-zero, one-le-pow, div-eq_of_lt}
use Rattle.std.specs.Prelude.{◌≡◌, refl, List, [], ◌∷◌, ◌++◌, length}
use Rattle.std.proofs.Math.Path.{ap}
use Prim.Native.Nat.{ℕ, zero, suc, ◌*◌, ◌/◌, ◌%◌, ◌^◌, ◌≤◌, ◌<◌, max, min}
use Rattle.text_fields.specs.Fields.{digit, digits, places_in, places, decimal}
use Rattle.text_fields.specs.Puts.{Put, Highest}
use Rattle.text_fields.specs.PutLaws.{put_none, put_then}

-- ---- how many decimal digits a number has

ten_powers : (k : ℕ) → (10 ^ suc k ≡ 10 ^ k * 10) × (1 ≤ 10 ^ k)
ten_powers k = (pow-suc 10 k, one-le-pow k 10 (omega arith))

places_in_is : (k most n : ℕ) → n ≤ most → n < 10 ^ suc k → 10 ^ k ≤ max n 1 → places_in most n ≡ suc k
unfolding places_in
places_in_is zero zero n m h l = refl
places_in_is zero (suc most) n m h l = rw (lt-ltb n 10 h)
places_in_is (suc k) zero n m h l = absurd (omega (arith, ten_powers k))
places_in_is (suc k) (suc most) n m h l =
    let p = ten_powers k in
    let q = ten_powers (suc k) in
    rw (le-ltb n 10 (omega arith)) (ap suc (places_in_is k most (n / 10) (omega arith) (omega arith) (omega arith)))

-- a power of ten that is not above the number, but for 1, and that is above its tenth
pub highest_is : (n power k : ℕ) → power ≡ 10 ^ k → power ≤ max n 1 → n / 10 < power → Highest n power
unfolding places
highest_is n power k e l h =
    record { exponent = k; is_power = e; is_places = places_in_is k n n (omega arith) (omega (arith, ten_powers k)) (omega arith) }

-- ---- digits, put from the first to the last

-- some of `count` digits are put; the next one stands for `power`, or none is left and `power` is 0
pub record Spelled (n base power count : ℕ) (before after : List ℕ) (at next : ℕ) : Type 0 where
  pub left : ℕ
  pub done : List ℕ
  pub is_power : power ≡ base ^ left / base
  pub is_rest : done ++ digits base left n ≡ digits base count n
  pub put : Put before after at next done

lower : (base k : ℕ) → 2 ≤ base → base ^ suc k / base ≡ base ^ k
lower base k wide = rw (pow-suc base k) (mul-div_cancel (base ^ k) (omega arith))

module _ (n base : ℕ) (wide : 2 ≤ base) where
  pub spelled_none : {power k at next : ℕ} (l : List ℕ) → power ≡ base ^ k → next ≡ min at (length l) → Spelled n base power (suc k) l l at next
  spelled_none {power} {k} {at} {next} l e h =
      record { left = suc k; done = []; is_power = e ∙ sym (lower base k wide); is_rest = refl; put = put_none l at next h }

  module _ {power count : ℕ} {a b : List ℕ} {i j : ℕ} (s : Spelled n base power count a b i j) where
    pub spelled_more : {c : List ℕ} {k : ℕ} → 0 < power → Put b c j k (digit (n / power % base) ∷ []) → Spelled n base (power / base) count a c i k
    unfolding digits
    spelled_more {c} {k} h p = by_left s.left s.is_power s.is_rest
      where
        by_left : (left : ℕ) → power ≡ base ^ left / base → s.done ++ digits base left n ≡ digits base count n → Spelled n base (power / base) count a c i k
        by_left zero e r = absurd (omega (arith, e ∙ ap (λ (x : ℕ). x / base) (pow-zero base) ∙ div-eq_of_lt {n = 1} {m = base} (omega arith)))
        by_left (suc left) e r =
            let q : power ≡ base ^ left = e ∙ lower base left wide in
            record {
              left = left;
              done = s.done ++ (digit (n / power % base) ∷ []);
              is_power = ap (λ (x : ℕ). x / base) q;
              is_rest = rw (append_assoc, q) r;
              put = put_then s.put p;
            }

    pub spelled_all : power ≤ 0 → Put a b i j (digits base count n)
    unfolding digits
    spelled_all h = by_left s.left s.is_power s.is_rest
      where
        by_left : (left : ℕ) → power ≡ base ^ left / base → s.done ++ digits base left n ≡ digits base count n → Put a b i j (digits base count n)
        by_left zero e r = rw (← r, append-nil) s.put
        by_left (suc left) e r = absurd (omega (arith, e ∙ lower base left wide, one-le-pow left base (omega arith)))

-- ---- how many bytes digits take

pub digits_length : (base count n : ℕ) → length (digits base count n) ≡ count
unfolding digits
digits_length base zero n = refl
digits_length base (suc k) n = ap suc (digits_length base k n)

places_in_most : (k most n : ℕ) → n < 10 ^ suc k → places_in most n ≤ suc k
unfolding places_in
places_in_most k zero n h = omega arith
places_in_most zero (suc most) n h = rw (lt-ltb n 10 h) (omega arith)
places_in_most (suc k) (suc most) n h =
    elim (dec_le 10 n) [
      | no l ↦ rw (lt-ltb n 10 (omega arith)) (omega arith)
      | yes l ↦ rw (le-ltb n 10 l) (omega (arith, places_in_most k most (n / 10) (omega (arith, pow-suc 10 (suc k)))))
    ]

pub decimal_length : (k n : ℕ) → n < 10 ^ suc k → length (decimal n) ≤ suc k
unfolding places
decimal_length k n h = omega (arith, digits_length 10 (places n) n, places_in_most k n n h)
