-- Laws of a plan's text that is put into a lent slice line by line.
-- Assumes nothing.
use Rattle.std.proofs.Math.Nat.{add-zero}
use Rattle.std.proofs.Common.{add-one, sym, ◌∙◌}
use native.Mathlib.Omega.{arith}
use Rattle.std.specs.Prelude.{◌≡◌, Bool, true, false, get_or, set, take, drop}
use Rattle.std.proofs.Math.Path.{refl, ap}
use mathlib.Core.List.{List, [], ◌∷◌, ◌++◌, append_assoc, append-nil}
use Prim.Native.Nat.{ℕ, suc, ◌+◌, ◌≤◌, ◌<◌}
use Rattle.std.proofs.Math.ListN.{length}
use Rattle.std.proofs.lemmas.List.Edits.{sets}
use Rattle.base.specs.Lists.{prefix, length_prefix}
use Rattle.text_fields.specs.Puts.{Put}
use Rattle.text_fields.specs.PutLaws.{sets_out, put_then}
use Rattle.conditions.specs.declared.Condition.{Condition}
use Rattle.planning.specs.Expansion.{Entry}
use Rattle.plan_text.specs.Text.{entry_text, entries_text}
use Rattle.plan_text.specs.Writes.{Wrote, with_absences}

sets_cons : (x : ℕ) (l : List ℕ) (at : ℕ) (xs : List ℕ) → sets (x ∷ l) (suc at) xs ≡ x ∷ sets l at xs
sets_cons x l at [] = refl
sets_cons x l at (y ∷ ys) = sets_cons x (set l at y) (suc at) ys

sets_front : (xs l : List ℕ) → sets l 0 xs ≡ take (length l) xs ++ drop (length xs) l
sets_front [] [] = refl
sets_front [] (y ∷ l) = refl
sets_front (x ∷ xs) [] = sets_out [] 1 xs (omega arith)
sets_front (x ∷ xs) (y ∷ l) = sets_cons x l 0 xs ∙ ap (λ (t : List ℕ). x ∷ t) (sets_front xs l)

pub put_wrote : {a b : List ℕ} {r : ℕ} {text : List ℕ} → Put a b 0 r text → Wrote text a b r
put_wrote {a} {b} {r} {text} p = record { counted = omega (arith, p.ends); lent = p.stored ∙ sets_front text a }

-- the second masks leave no more to show
pub with_fewer : (paired : Bool) (entries absences : ℕ) → with_absences paired entries absences ≤ entries
with_fewer true entries absences = omega arith
with_fewer false entries absences = omega arith

module _ (paired : Bool) where
  -- one more entry's line
  pub entries_snoc : (i : ℕ) (l : List (Entry Condition)) (e : Entry Condition)
      → entries_text paired i (l ++ (e ∷ [])) ≡ entries_text paired i l ++ entry_text paired (i + length l) e
  unfolding entries_text
  entries_snoc i [] e = rw add-zero (append-nil (entry_text paired i e))
  entries_snoc i (x ∷ l) e =
      let n : suc i + length l ≡ i + suc (length l) = omega arith in
      rw (entries_snoc (suc i) l e, n)
      (sym (append_assoc (entry_text paired i x) (entries_text paired (suc i) l) (entry_text paired (i + suc (length l)) e)))

  pub put_entry : (f : ℕ → Entry Condition) (n : ℕ) {a b c : List ℕ} {i j k : ℕ} → Put a b i j (entries_text paired 0 (prefix f n))
      → Put b c j k (entry_text paired n (f n)) → Put a c i k (entries_text paired 0 (prefix f (n + 1)))
  put_entry f n p q =
      let e : 0 + length (prefix f n) ≡ n = omega (arith, length_prefix f n) in
      rw (add-one n, entries_snoc 0 (prefix f n) (f n), e) (put_then p q)

  -- lists whose entries have the same lines, by whatever number
  pub entries_same : (d : Entry Condition) (l m : List (Entry Condition)) → length l ≡ length m
      → ((k : ℕ) → k < length l → (i : ℕ) → entry_text paired i (get_or l k d) ≡ entry_text paired i (get_or m k d))
      → (i : ℕ) → entries_text paired i l ≡ entries_text paired i m
  unfolding entries_text
  entries_same d [] [] e same i = refl
  entries_same d [] (y ∷ m) e same i = absurd (omega arith)
  entries_same d (x ∷ l) [] e same i = absurd (omega arith)
  entries_same d (x ∷ l) (y ∷ m) e same i =
      ap (λ (t : List ℕ). t ++ entries_text paired (suc i) l) (same 0 (omega arith) i)
      ∙ ap (λ (t : List ℕ). entry_text paired i y ++ t) (entries_same d l m (omega arith) (λ k h. same (suc k) (omega arith)) (suc i))
