-- Laws of numbers in bytes, each over the width.
-- Assumes nothing.
use Rattle.std.specs.Prelude.{ℕ, zero, suc, ◌+◌, ◌*◌, ◌/◌, ◌%◌, ◌^◌, ◌≤◌, ◌<◌, ◌≡◌, refl, List, [], ◌∷◌, ◌++◌, length, take, drop, get_or, set}
use Rattle.std.proofs.Common.{add-zero, suc-add, zero-add, pow-suc, div-one, arith, sym, ap, ◌∙◌, append_assoc, length-drop, take-append-drop, take-add, drop-drop, length-take-le, drop-cons, take_at, drop_at, get_or-drop}
use Rattle.std.proofs.Math.Nat.{pow-succ', div-div-eq-div-mul}
use Rattle.std.proofs.Math.Arith.{mod-mul}
use Rattle.std.proofs.lemmas.List.Edits.{sets, sets-eq}
use Rattle.numbers.specs.Numbers.{AreBytes, from_bytes, to_bytes, number_at}

-- ---- one number after another

pub from_append : (xs ys : List ℕ) → from_bytes (xs ++ ys) ≡ from_bytes xs + 256 ^ length xs * from_bytes ys
unfolding from_bytes
from_append [] ys = omega arith
from_append (x ∷ xs) ys = rw (pow-suc, from_append xs ys) (omega arith)

pub to_length : (n v : ℕ) → length (to_bytes n v) ≡ n
unfolding to_bytes
to_length zero v = refl
to_length (suc n) v = ap suc (to_length n (v / 256))

pub to_append : (m n v : ℕ) → to_bytes (m + n) v ≡ to_bytes m v ++ to_bytes n (v / 256 ^ m)
unfolding to_bytes
to_append zero n v = rw (zero-add, div-one)
to_append (suc m) n v = rw (suc-add, to_append m n (v / 256), div-div-eq-div-mul, ← pow-succ' 256 m)

-- ---- reading

pub read_append : (m n : ℕ) (s : List ℕ) (at : ℕ) → at + m ≤ length s → number_at (m + n) s at ≡ number_at m s at + 256 ^ m * number_at n s (at + m)
unfolding number_at
read_append m n s at h =
    let l : length (take m (drop at s)) ≡ m = length-take-le m (drop at s) (simp length-drop (omega arith)) in
    rw (take-add m n (drop at s), from_append, l, drop-drop m at s)

pub read_byte : (s : List ℕ) (at : ℕ) → at < length s → number_at 1 s at ≡ get_or s at 0
unfolding number_at from_bytes
read_byte s at h = rw (drop-cons s at 0 h) (omega arith)

-- ---- writing

pub sets_append : (l : List ℕ) (at : ℕ) (xs ys : List ℕ) → sets l at (xs ++ ys) ≡ sets (sets l at xs) (at + length xs) ys
sets_append l at [] ys = rw add-zero
sets_append l at (x ∷ xs) ys = sets_append (set l at x) (suc at) xs ys ∙ ap (λ (k : ℕ). sets (sets (set l at x) (suc at) xs) k ys) (omega arith)

-- one run of stores after another
pub sets_after : (l xs ys : List ℕ) (at next : ℕ) → at + length xs ≡ next → sets (sets l at xs) next ys ≡ sets l at (xs ++ ys)
sets_after l xs ys at next e = ap (λ (k : ℕ). sets (sets l at xs) k ys) (sym e) ∙ sym (sets_append l at xs ys)

pub to_mod : (n v : ℕ) → to_bytes n (v % 256 ^ n) ≡ to_bytes n v
unfolding to_bytes
to_mod zero v = refl
to_mod (suc n) v =
    let e : v % 256 ^ suc n ≡ v / 256 % 256 ^ n * 256 + v % 256 = rw (pow-suc 256 n) (mod-mul v {m = 256 ^ n} {c = 256} (pow_pos n) (omega arith)) in
    let low : v % 256 ^ suc n % 256 ≡ v % 256 = omega (arith, e) in
    let high : v % 256 ^ suc n / 256 ≡ v / 256 % 256 ^ n = omega (arith, e) in
    rw (low, high, to_mod n (v / 256))
  where
    pow_pos : (n : ℕ) → 0 < 256 ^ n
    pow_pos zero = omega arith
    pow_pos (suc n) = rw pow-suc (omega (arith, pow_pos n))

-- a number written in two parts, the lower one first
pub write_append : (l : List ℕ) (at m n v : ℕ) → sets (sets l at (to_bytes m (v % 256 ^ m))) (at + m) (to_bytes n (v / 256 ^ m)) ≡ sets l at (to_bytes (m + n) v)
write_append l at m n v =
    rw (to_mod, to_append, sets_append) (ap (λ (k : ℕ). sets (sets l at (to_bytes m v)) (at + k) (to_bytes n (v / 256 ^ m))) (sym (to_length m v)))

-- ---- there and back

pub from_to : (n v : ℕ) → v < 256 ^ n → from_bytes (to_bytes n v) ≡ v
unfolding from_bytes to_bytes
from_to zero v h = omega arith
from_to (suc n) v h = let k : v < 256 ^ n * 256 = rw pow-suc at h in rw (from_to n (v / 256) (omega arith)) (omega arith)

pub bytes_drop : (n : ℕ) (s : List ℕ) → AreBytes s → AreBytes (drop n s)
bytes_drop n s h i = rw (get_or-drop n s i 0) (h (n + i))

pub bytes_take : (n : ℕ) (s : List ℕ) → AreBytes s → AreBytes (take n s)
bytes_take zero s h i = omega arith
bytes_take (suc n) [] h i = omega arith
bytes_take (suc n) (x ∷ s) h zero = h 0
bytes_take (suc n) (x ∷ s) h (suc i) = bytes_take n s (λ k. h (suc k)) i

pub to_from : (bs : List ℕ) → AreBytes bs → to_bytes (length bs) (from_bytes bs) ≡ bs
unfolding from_bytes to_bytes
to_from [] h = refl
to_from (b ∷ bs) h =
    let e : (b + 256 * from_bytes bs) / 256 ≡ from_bytes bs = omega (arith, h 0) in
    let f : (b + 256 * from_bytes bs) % 256 ≡ b = omega (arith, h 0) in
    rw (e, f, to_from bs (λ i. h (suc i)))

pub read_written : (n v : ℕ) (s : List ℕ) (at : ℕ) → v < 256 ^ n → at + n ≤ length s → number_at n (sets s at (to_bytes n v)) at ≡ v
unfolding number_at
read_written n v s at h l =
    rw (sets-eq (to_bytes n v) s at (rw to_length l), append_assoc, drop_at (take at s) (to_bytes n v ++ drop (at + length (to_bytes n v)) s) at (length-take-le at s (omega arith)))
    (rw (take_at (to_bytes n v) (drop (at + length (to_bytes n v)) s) n (to_length n v)) (from_to n v h))

-- the bytes that a number was read from
pub written_there : (n : ℕ) (s : List ℕ) (at : ℕ) → AreBytes s → at + n ≤ length s → to_bytes n (number_at n s at) ≡ take n (drop at s)
unfolding number_at
written_there n s at h l =
    let size : length (take n (drop at s)) ≡ n = length-take-le n (drop at s) (simp length-drop (omega arith)) in
    ap (λ (k : ℕ). to_bytes k (from_bytes (take n (drop at s)))) (sym size) ∙ to_from (take n (drop at s)) (bytes_take n (drop at s) (bytes_drop at s h))

-- ---- what stands from an offset on

pub byte_there : (s : List ℕ) (at next : ℕ) → at + 1 ≡ next → next ≤ length s → get_or s at 0 ∷ drop next s ≡ drop at s
byte_there s at next e l = let k : next ≡ suc at = omega arith in rw k (sym (drop-cons s at 0 (omega arith)))

pub number_there : (s : List ℕ) → AreBytes s → (n at next : ℕ) → at + n ≡ next → next ≤ length s → to_bytes n (number_at n s at) ++ drop next s ≡ drop at s
number_there s b n at next e l = rw (written_there n s at b (omega arith), ← e, ← drop-drop n at s) (take-append-drop n (drop at s))

-- a number counted from an offset
pub read_drop : (n : ℕ) (s : List ℕ) (at k : ℕ) → number_at n s (at + k) ≡ number_at n (drop at s) k
unfolding number_at
read_drop n s at k = rw (drop-drop k at s)

pub number_lt : (n : ℕ) (s : List ℕ) (at : ℕ) → AreBytes s → number_at n s at < 256 ^ n
unfolding number_at from_bytes
number_lt n s at h = below n (drop at s) (bytes_drop at s h)
  where
    below : (n : ℕ) (s : List ℕ) → AreBytes s → from_bytes (take n s) < 256 ^ n
    below zero s h = omega arith
    below (suc n) [] h = rw pow-suc (omega (arith, below n [] h))
    below (suc n) (x ∷ s) h = rw pow-suc (omega (arith, h 0, below n s (λ i. h (suc i))))
