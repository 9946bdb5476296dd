-- The number that std's `from_le_bytes` reads and the bytes that its `to_le_bytes` writes are those of the specs, at any width.
-- Assumes nothing.
use Rattle.std.specs.Prelude.{ℕ, zero, suc, ◌+◌, ◌-◌, ◌*◌, ◌/◌, ◌%◌, ◌^◌, ◌≤◌, ◌<◌, ◌≡◌, refl, List, ◌∷◌, length, take, drop, slice_index}
use Rattle.std.specs.Int.{byte_at, byte_worth, sum_through, bytes_low_first}
use Rattle.std.proofs.Common.{add-zero, zero-add, add-one, pow-suc, div-one, arith, sym, ap, ◌∙◌, append_assoc, length-drop, length-take-le, take_all}
use Rattle.std.proofs.Math.Nat.{div-div-eq-div-mul}
use Rattle.std.proofs.Math.Path.{fun_ext}
use Rattle.std.proofs.lemmas.List.Edits.{sets, sets-eq}
use borrow.Rule.Slice.PartMut.{put_mid, Post-is}
use Rattle.numbers.specs.Numbers.{from_bytes, to_bytes, number_at}
use Rattle.numbers.specs.NumberLaws.{to_length, read_append, read_byte}

-- a number by its bytes; the last of them is byte k
number_is : (k : ℕ) (s : List ℕ) (at : ℕ) → at + suc k ≤ length s → number_at (suc k) s at ≡ sum_through (λ i. byte_worth i (slice_index s (at + i))) k
number_is zero s at h = rw add-zero (read_byte s at (omega arith))
number_is (suc k) s at h =
    let more = rw (add-one (suc k), read_byte s (at + suc k) (omega arith)) at (read_append (suc k) 1 s at (omega arith)) in
    rw (more, number_is k s at (omega arith)) (omega arith)

-- the same at the widths that are read, as `from_le_bytes` gives it: of a slice's bytes, or of an array's that are the same
pub two_bytes : (s : List ℕ) (at : ℕ) → at + 2 ≤ length s → number_at 2 s at ≡ slice_index s (at + 0) + slice_index s (at + 1) * 256
two_bytes s at h = number_is 1 s at h

pub eight_bytes : (s : List ℕ) (at : ℕ) → at + 8 ≤ length s → number_at 8 s at ≡ sum_through (λ i. byte_worth i (slice_index s (at + i))) 7
eight_bytes s at h = number_is 7 s at h

-- the same of a slice's bytes from its front, and of the bytes that lie in a slice from an offset on, at any width
sum_is : (k : ℕ) (bs : List ℕ) → k < length bs → sum_through (λ i. byte_worth i (slice_index bs i)) k ≡ number_at (suc k) bs 0
sum_is k bs h =
    ap (λ (f : ℕ → ℕ). sum_through f k) (fun_ext (λ i. ap (λ (m : ℕ). byte_worth i (slice_index bs m)) (sym (zero-add i)))) ∙ sym (number_is k bs 0 (omega arith))

pub std_reads : (k : ℕ) (s bs : List ℕ) (at next : ℕ) → next ≡ at + suc k → next ≤ length s → bs ≡ take (next - at) (drop at s)
    → sum_through (λ i. byte_worth i (slice_index bs i)) k ≡ number_at (suc k) s at
unfolding number_at
std_reads k s bs at next e h part =
    let width : next - at ≡ suc k = omega arith in
    let front : bs ≡ take (suc k) (drop at s) = rw width at part in
    let size : length bs ≡ suc k = rw front (length-take-le (suc k) (drop at s) (simp length-drop (omega arith))) in
    sum_is k bs (omega arith) ∙ ap from_bytes (take_all (suc k) bs (omega arith) ∙ front)

low_first : (k i v : ℕ) → bytes_low_first i k v ≡ to_bytes k (v / 256 ^ i)
unfolding to_bytes
low_first zero i v = refl
low_first (suc k) i v =
    let next : v / 256 ^ suc i ≡ v / 256 ^ i / 256 = rw (pow-suc 256 i) (sym (div-div-eq-div-mul v (256 ^ i) 256)) in
    rw (low_first k (suc i) v, next) (ap (λ (b : ℕ). b ∷ to_bytes k (v / 256 ^ i / 256)) (byte i v))
  where
    byte : (i v : ℕ) → byte_at i v ≡ v / 256 ^ i % 256
    byte zero v = rw div-one refl
    byte (suc i) v = refl

-- the k bytes of a number put into a slice from an offset on
pub std_writes : (k : ℕ) (s : List ℕ) (at next v w : ℕ) → next ≡ at + k → next ≤ length s → v ≡ w
    → put_mid at (next - at) s (bytes_low_first 0 k v) ≡ sets s at (to_bytes k w)
std_writes k s at next v w e h same =
    let size : at + length (to_bytes k v) ≡ next = rw to_length (sym e) in
    rw (← same, low_first k 0 v, div-one, sets-eq (to_bytes k v) s at (rw size h), size, Post-is at next s (omega arith)) (sym (append_assoc (take at s) (to_bytes k v) (drop next s)))
