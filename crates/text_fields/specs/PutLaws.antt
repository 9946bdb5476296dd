-- Laws of texts that are put into a lent slice part by part.
-- Assumes nothing.
use Rattle.std.proofs.Math.Decide.{dec_le}
use Rattle.std.proofs.Common.{arith, sym, ap, ◌∙◌, length-append}
use Rattle.std.specs.Prelude.{◌≡◌, refl, List, [], ◌∷◌, ◌++◌, ℕ, suc, ◌+◌, ◌≤◌, min, length}
use Rattle.std.proofs.lemmas.List.Edits.{sets}
use Rattle.std.proofs.Math.Seq.{set_out, length-sets}
use Rattle.numbers.specs.NumberLaws.{sets_append}
use Rattle.text_fields.specs.Puts.{Put}

-- stores past the end are dropped
pub sets_out : (l : List ℕ) (at : ℕ) (xs : List ℕ) → length l ≤ at → sets l at xs ≡ l
sets_out l at [] h = refl
sets_out l at (x ∷ xs) h = rw (set_out l at x h) (sets_out l (suc at) xs (omega arith))

-- nothing put, from any offset: an offset past the end is the end
pub put_none : (l : List ℕ) (at next : ℕ) → next ≡ min at (length l) → Put l l at next []
put_none l at next e = record { stored = refl; ends = omega arith }

pub put_length : {a b : List ℕ} {i j : ℕ} {xs : List ℕ} → Put a b i j xs → length b ≡ length a
put_length {a} {b} {i} {j} {xs} p = ap length p.stored ∙ length-sets a i xs

-- one part after another
pub put_then : {a b c : List ℕ} {i j k : ℕ} {xs ys : List ℕ} → Put a b i j xs → Put b c j k ys → Put a c i k (xs ++ ys)
put_then {a} {b} {c} {i} {j} {k} {xs} {ys} p q =
    record {
      stored =
          q.stored ∙ rw p.stored
          (elim (dec_le (i + length xs) (length a)) [
            | yes h ↦ let e : j ≡ i + length xs = omega (arith, p.ends) in rw e (sym (sets_append a i xs ys))
            | no h ↦
                let size = length-sets a i xs in
                sets_out (sets a i xs) j ys (omega (arith, p.ends, size))
                ∙ sym (sets_append a i xs ys ∙ sets_out (sets a i xs) (i + length xs) ys (omega (arith, size)))
          ]);
      ends = rw (length-append xs ys) (omega (arith, p.ends, q.ends, put_length p));
    }
