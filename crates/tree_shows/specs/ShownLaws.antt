-- What the bytes of a list's tree show: its last condition, and how many entries it has.
-- Assumes nothing.
use Rattle.std.specs.Prelude.{ℕ, zero, suc, ◌+◌, ◌^◌, ◌≤◌, ◌<◌, ◌≡◌, true, T, take, get_or}
use Rattle.std.proofs.Common.{arith, sym, ◌∙◌, drop_at, take-suc, take_all}
use Rattle.std.proofs.Math.Path.{refl, ap}
use Rattle.std.proofs.Math.Bool.{false}
use mathlib.Core.List.{List, [], ◌∷◌, ◌++◌, append_assoc}
use Rattle.std.proofs.Math.Dec.{leb}
use Rattle.std.proofs.Math.ListN.{length, length-append}
use borrow.Author.Tests.{lt-leb}
use Rattle.std.proofs.lemmas.Slice.Eq.{bytes_eq-Decides}
use Rattle.base.specs.Bools.{is_true, holds}
use Rattle.commands.specs.Commands.{MASK_WIDTH}
use Rattle.numbers.specs.Numbers.{to_bytes, number_at}
use Rattle.numbers.specs.NumberLaws.{from_to, read_drop}
use Rattle.conditions.specs.declared.Condition.{Condition}
use Rattle.planning.specs.Expansion.{Entry}
use Rattle.flat.specs.TreeBytes.{condition_bytes, leaf_bytes, end_bytes, first_bytes, entry_bytes, later_entries, own_tree, everyone, tree_bytes}
use Rattle.flat.specs.TreeBytesLaws.{entries_snoc}
use Rattle.tree_shows.specs.Shown.{last_mask_at, last_mask, same_bytes}

-- ---- the same bytes

pub same_bytes_equal : (a b : List ℕ) → T (same_bytes a b) → a ≡ b
same_bytes_equal a b t = (bytes_eq-Decides a b).0 (is_true (same_bytes a b) t)

pub bytes_same : (a : List ℕ) → T (same_bytes a a)
bytes_same a = holds (same_bytes a a) ((bytes_eq-Decides a a).1 refl)

-- ---- the last condition

-- entry 0 alone
one_shown : (x : Entry Condition) → x.condition.present < 2 ^ 64 → last_mask (tree_bytes false (x ∷ [])) ≡ x.condition.present
unfolding last_mask own_tree later_entries first_bytes condition_bytes to_bytes number_at
one_shown x h = from_to MASK_WIDTH x.condition.present h

-- an entry after others
module _ (x : Entry Condition) (l : List (Entry Condition)) (y : Entry Condition) where
  -- what stands before it, and its own bytes with END
  abbrev front : List ℕ
  front = first_bytes false (length (x ∷ (l ++ (y ∷ [])))) x.condition ++ later_entries everyone false l

  abbrev rest : List ℕ
  rest = entry_bytes false y.condition true y.action ++ end_bytes

  tree_split : tree_bytes false (x ∷ (l ++ (y ∷ []))) ≡ front ++ rest
  unfolding own_tree
  tree_split = rw (entries_snoc everyone false l y) (simp append_assoc)

  front_size : 12 ≤ length front
  unfolding first_bytes condition_bytes to_bytes
  front_size = omega (arith, length-append (first_bytes false (length (x ∷ (l ++ (y ∷ [])))) x.condition) (later_entries everyone false l))

  -- its mask comes after SEQUENCE 2 and the command of the condition
  rest_shown : (y.condition.present < 2 ^ 64) → number_at MASK_WIDTH rest 4 ≡ y.condition.present
  unfolding entry_bytes condition_bytes leaf_bytes to_bytes number_at
  rest_shown h = from_to MASK_WIDTH y.condition.present h

  rest_size : length rest ≡ 15
  unfolding entry_bytes condition_bytes leaf_bytes to_bytes
  rest_size = refl

  later_shown : y.condition.present < 2 ^ 64 → last_mask (tree_bytes false (x ∷ (l ++ (y ∷ [])))) ≡ y.condition.present
  unfolding last_mask
  later_shown h =
      let size : length (front ++ rest) ≡ length front + 15 = omega (arith, length-append front rest, rest_size) in
      let long : leb (length (front ++ rest)) 13 ≡ false = lt-leb (length (front ++ rest)) 13 (omega (arith, size, front_size)) in
      let at : last_mask_at (length (front ++ rest)) ≡ length front + 4 = rw long (omega (arith, size)) in
      rw (tree_split, at) (read_drop MASK_WIDTH (front ++ rest) (length front) 4 ∙ ap (λ (s : List ℕ). number_at MASK_WIDTH s 4) (drop_at front rest (length front) refl) ∙ rest_shown h)

-- of any list
pub last_shown : (l : List (Entry Condition)) (n : ℕ) (d : Entry Condition) → length l ≡ suc n → (get_or l n d).condition.present < 2 ^ 64
    → last_mask (tree_bytes false l) ≡ (get_or l n d).condition.present
last_shown [] n d size h = absurd (omega arith)
last_shown (x ∷ []) n d size h = let z : n ≡ 0 = omega arith in rw z (one_shown x (rw z at h))
last_shown (x ∷ y ∷ l) zero d size h = absurd (omega arith)
last_shown (x ∷ y ∷ l) (suc n) d size h =
    let m = y ∷ l in
    let split : m ≡ take n m ++ (get_or m n d ∷ []) = sym (take_all (suc n) m (omega arith)) ∙ take-suc m n d (omega arith) in
    ap (λ (k : List (Entry Condition)). last_mask (tree_bytes false (x ∷ k))) split ∙ later_shown x (take n m) (get_or m n d) h
