-- What the rest of the planner asks of a list's tree: its bytes from any columns, and the checks of each entry by its place.
-- Assumes nothing.
use Rattle.std.specs.Prelude.{ℕ, zero, suc, ◌<◌, ◌≡◌, Bool, true, false, length, get_or, if◌then◌else◌}
use Rattle.std.proofs.Common.{arith, ap}
use Rattle.std.proofs.Math.Path.{refl}
use mathlib.Core.List.{List, [], ◌∷◌, ◌++◌}
use Rattle.conditions.specs.declared.Condition.{Condition}
use Rattle.conditions.specs.Condition.{condition_at}
use Rattle.planning.specs.Expansion.{Entry}
use Rattle.planning.specs.Columns.{entries_of}
use Rattle.flat.specs.TreeBytes.{condition_bytes, first_bytes, entry_bytes, later_entries, own_tree, tree_entries}
use Rattle.flat.specs.FlatTree.{Each, EachLater}

-- ---- a tree shows of an entry its action and its condition, of which the second mask only if the list is paired

module _ (paired : Bool) where
  abbrev Alike : List (Entry Condition) → List (Entry Condition) → Type 0
  Alike [] [] = Unit {0}
  Alike [] (y ∷ m) = ⊥
  Alike (x ∷ l) [] = ⊥
  Alike (x ∷ l) (y ∷ m) = (condition_bytes paired x.condition ≡ condition_bytes paired y.condition) × (x.action ≡ y.action) × Alike l m

  alike_length : (l m : List (Entry Condition)) → Alike l m → length l ≡ length m
  alike_length [] [] a = refl
  alike_length [] (y ∷ m) a = absurd a
  alike_length (x ∷ l) [] a = absurd a
  alike_length (x ∷ l) (y ∷ m) a = ap suc (alike_length l m a.2)

  alike_append : (l m : List (Entry Condition)) (x y : Entry Condition) → Alike l m → condition_bytes paired x.condition ≡ condition_bytes paired y.condition
      → x.action ≡ y.action → Alike (l ++ (x ∷ [])) (m ++ (y ∷ []))
  alike_append [] [] x y a c d = (c, d, tt)
  alike_append [] (z ∷ m) x y a c d = absurd a
  alike_append (z ∷ l) [] x y a c d = absurd a
  alike_append (z ∷ l) (w ∷ m) x y a c d = (a.0, a.1, alike_append l m x y a.2 c d)

  module _ (mine : ℕ → Bool) where
    alike_later : (l m : List (Entry Condition)) → Alike l m → later_entries mine paired l ≡ later_entries mine paired m
    unfolding later_entries entry_bytes
    alike_later [] [] a = refl
    alike_later [] (y ∷ m) a = absurd a
    alike_later (x ∷ l) [] a = absurd a
    alike_later (x ∷ l) (y ∷ m) a = rw (a.0, a.1, alike_later l m a.2)

    alike_tree : (l m : List (Entry Condition)) → Alike l m → own_tree mine paired l ≡ own_tree mine paired m
    unfolding own_tree first_bytes
    alike_tree [] [] a = refl
    alike_tree [] (y ∷ m) a = absurd a
    alike_tree (x ∷ l) [] a = absurd a
    alike_tree (x ∷ l) (y ∷ m) a = rw (a.0, alike_length l m a.2, alike_later l m a.2)

-- the parents and the depths of the columns do not matter, nor do the second masks where the list is not paired
pub tree_columns : (mine : ℕ → Bool) (paired : Bool) (conditions absences actions parents depths : List ℕ) (n : ℕ)
    → own_tree mine paired (tree_entries conditions absences actions n)
    ≡ own_tree mine paired (entries_of conditions (if paired then absences else []) actions parents depths n)
unfolding condition_bytes
tree_columns mine paired conditions absences actions parents depths n = alike_tree paired mine _ _ (alike n)
  where
    shown : (paired : Bool) (i : ℕ) → condition_bytes paired (condition_at conditions absences i) ≡ condition_bytes paired (condition_at conditions (if paired then absences else []) i)
    shown true i = refl
    shown false i = refl

    alike : (n : ℕ) → Alike paired (tree_entries conditions absences actions n) (entries_of conditions (if paired then absences else []) actions parents depths n)
    alike zero = tt
    alike (suc n) =
        alike_append paired (tree_entries conditions absences actions n) (entries_of conditions (if paired then absences else []) actions parents depths n) _ _ (alike n)
        (shown paired n) refl

-- ---- what holds of each entry, by its place

pub each_by_place : (P : Entry Condition → Type 0) (l : List (Entry Condition)) (d : Entry Condition) → ((i : ℕ) → i < length l → P (get_or l i d)) → Each P l
each_by_place P [] d h = tt
each_by_place P (x ∷ l) d h = (h 0 (omega arith), each_by_place P l d (λ i k. h (suc i) (omega arith)))

pub later_by_place : (P : Entry Condition → Type 0) (l : List (Entry Condition)) (d : Entry Condition) → ((i : ℕ) → suc i < length l → P (get_or l (suc i) d)) → EachLater P l
later_by_place P [] d h = tt
later_by_place P (x ∷ l) d h = each_by_place P l d (λ i k. h i (omega arith))
