-- Laws of the bytes of a list's tree: their sizes, and what a run of stores leaves of them.
-- Assumes nothing.
use Rattle.std.specs.Prelude.{ℕ, zero, suc, ◌+◌, ◌-◌, ◌*◌, ◌≤◌, ◌<◌, ◌≡◌, Bool, get_or, drop}
use Rattle.std.proofs.Common.{zero-add, add-one, sym, ◌∙◌}
use Rattle.std.proofs.Math.Decide.{dec_le}
use native.Mathlib.Omega.{arith}
use Rattle.std.proofs.Math.Path.{refl, ap, subst}
use Rattle.std.proofs.Math.Bool.{true, false}
use mathlib.Core.List.{List, [], ◌∷◌, ◌++◌, append_assoc, append-nil}
use Rattle.std.proofs.Math.ListN.{length, set, length-append}
use Rattle.std.proofs.lemmas.List.Edits.{sets, sets-eq}
use Rattle.base.specs.Lists.{length_prefix}
use Rattle.commands.specs.Commands.{JOB_LEAF, WAITING, END_OF_TREE, FALLBACK_SIZE, SEQUENCE_SIZE, CONDITION_SIZE, JOB_LEAF_SIZE, PAIR_SIZE, WAITING_SIZE, END_OF_TREE_SIZE, OPERANDS_AT, MASK_WIDTH}
use Rattle.numbers.specs.Numbers.{to_bytes}
use Rattle.numbers.specs.NumberLaws.{sets_after}
use Rattle.conditions.specs.declared.Condition.{Condition}
use Rattle.planning.specs.Expansion.{Entry}
use Rattle.planning.specs.Columns.{entry_at}
use Rattle.tree.specs.declared.Kind.{Kind}
use Rattle.tree.specs.declared.Kind.TheVariants.{Fallback, Sequence}
use Rattle.tree.specs.ReadTree.{count_width}
use Rattle.flat.specs.TreeBytes.{branch_bytes, condition_bytes, leaf_bytes, end_bytes, first_bytes, entry_bytes, later_entries, own_tree, everyone, tree_bytes, tree_size, tree_entries, leaves_size, Puts}

-- ---- sizes

pub branch_size : (kind : Kind) (n : ℕ) → length (branch_bytes kind n) ≡ FALLBACK_SIZE
unfolding to_bytes
branch_size kind n = refl

-- what the command of a condition takes
abbrev pub condition_size : Bool → ℕ
condition_size false = CONDITION_SIZE
condition_size true = PAIR_SIZE

-- a leaf
abbrev pub leaf_size : (mine : Bool) → ℕ
leaf_size true = JOB_LEAF_SIZE
leaf_size false = WAITING_SIZE

-- an entry after the first, without its leaf
abbrev pub stem_size : Bool → ℕ
stem_size paired = SEQUENCE_SIZE + condition_size paired

pub condition_size_is : (paired : Bool) (c : Condition) → length (condition_bytes paired c) ≡ condition_size paired
unfolding condition_bytes to_bytes
condition_size_is false c = refl
condition_size_is true c = refl

pub leaf_size_is : (mine : Bool) (action : ℕ) → length (leaf_bytes mine action) ≡ leaf_size mine
unfolding leaf_bytes
leaf_size_is true action = refl
leaf_size_is false action = refl

pub leaf_most : (mine : Bool) (action : ℕ) → (1 ≤ length (leaf_bytes mine action)) × (length (leaf_bytes mine action) ≤ JOB_LEAF_SIZE)
unfolding leaf_bytes
leaf_most true action = (omega arith, omega arith)
leaf_most false action = (omega arith, omega arith)

module _ (paired : Bool) where
  -- what is put one part after another
  pub first_parts : (n : ℕ) (c : Condition) → length (first_bytes paired n c) ≡ length (branch_bytes Fallback n) + length (condition_bytes paired c)
  unfolding first_bytes
  first_parts n c = length-append (branch_bytes Fallback n) (condition_bytes paired c)

  pub entry_parts : (c : Condition) (mine : Bool) (action : ℕ)
      → length (entry_bytes paired c mine action) ≡ length (branch_bytes Sequence 2) + length (condition_bytes paired c) + length (leaf_bytes mine action)
  unfolding entry_bytes
  entry_parts c mine action =
      omega (
        arith,
        length-append (branch_bytes Sequence 2) (condition_bytes paired c ++ leaf_bytes mine action),
        length-append (condition_bytes paired c) (leaf_bytes mine action),
      )

  first_size : (n : ℕ) (c : Condition) → length (first_bytes paired n c) ≡ FALLBACK_SIZE + condition_size paired
  first_size n c = omega (arith, first_parts n c, branch_size Fallback n, condition_size_is paired c)

  entry_size : (c : Condition) (mine : Bool) (action : ℕ) → length (entry_bytes paired c mine action) ≡ stem_size paired + length (leaf_bytes mine action)
  entry_size c mine action = omega (arith, entry_parts c mine action, branch_size Sequence 2, condition_size_is paired c)

module _ (mine : ℕ → Bool) (paired : Bool) where
  pub parts_size : (x : Entry Condition) (l : List (Entry Condition))
      → length (own_tree mine paired (x ∷ l)) ≡ length (first_bytes paired (length (x ∷ l)) x.condition) + length (later_entries mine paired l) + length end_bytes
  unfolding own_tree
  parts_size x l =
      omega (
        arith,
        length-append (first_bytes paired (length (x ∷ l)) x.condition) (later_entries mine paired l ++ end_bytes),
        length-append (later_entries mine paired l) end_bytes,
      )

  -- each entry after the first adds its size
  later_one : (x : Entry Condition) (l : List (Entry Condition))
      → length (later_entries mine paired (x ∷ l)) ≡ stem_size paired + length (leaf_bytes (mine x.action) x.action) + length (later_entries mine paired l)
  unfolding later_entries
  later_one x l =
      length-append (entry_bytes paired x.condition (mine x.action) x.action) (later_entries mine paired l)
      ∙ ap (λ (k : ℕ). k + length (later_entries mine paired l)) (entry_size paired x.condition (mine x.action) x.action)

module _ (mine : ℕ → Bool) where
  later_size : (paired : Bool) (l : List (Entry Condition)) → length (later_entries mine paired l) ≡ stem_size paired * length l + leaves_size mine l
  unfolding later_entries
  later_size false [] = refl
  later_size true [] = refl
  later_size false (x ∷ l) = omega (arith, later_one mine false x l, later_size false l)
  later_size true (x ∷ l) = omega (arith, later_one mine true x l, later_size true l)

  pub counted_size : (paired : Bool) (n leaves : ℕ) (l : List (Entry Condition)) → 1 ≤ n → length l ≡ n → leaves ≡ leaves_size mine (drop 1 l)
      → FALLBACK_SIZE + condition_size paired + stem_size paired * (n - 1) + leaves + END_OF_TREE_SIZE ≡ length (own_tree mine paired l)
  counted_size paired n leaves [] h e f = absurd (omega arith)
  counted_size false n leaves (x ∷ l) h e f =
      omega (arith, parts_size mine false x l, first_size false (length (x ∷ l)) x.condition, later_size false l)
  counted_size true n leaves (x ∷ l) h e f =
      omega (arith, parts_size mine true x l, first_size true (length (x ∷ l)) x.condition, later_size true l)

  pub leaves_most : (l : List (Entry Condition)) → leaves_size mine l ≤ JOB_LEAF_SIZE * length l
  leaves_most [] = omega arith
  leaves_most (x ∷ l) = omega (arith, (leaf_most (mine x.action) x.action).1, leaves_most l)

  -- one entry more
  leaves_snoc : (l : List (Entry Condition)) (x : Entry Condition)
      → leaves_size mine (l ++ (x ∷ [])) ≡ leaves_size mine l + length (leaf_bytes (mine x.action) x.action)
  leaves_snoc [] x = omega arith
  leaves_snoc (y ∷ l) x = omega (arith, leaves_snoc l x)

  -- no tree of a list has more bytes than the one with all its actions
  pub tree_most : (paired : Bool) (l : List (Entry Condition)) → 0 < length l → length (own_tree mine paired l) ≤ tree_size paired (length l)
  tree_most paired [] h = absurd (omega arith)
  tree_most false (x ∷ l) h = omega (arith, counted_size false (length (x ∷ l)) (leaves_size mine l) (x ∷ l) h refl refl, leaves_most l)
  tree_most true (x ∷ l) h = omega (arith, counted_size true (length (x ∷ l)) (leaves_size mine l) (x ∷ l) h refl refl, leaves_most l)

pub leaves_all : (l : List (Entry Condition)) → leaves_size everyone l ≡ JOB_LEAF_SIZE * length l
leaves_all [] = refl
leaves_all (x ∷ l) = omega (arith, leaf_size_is true x.action, leaves_all l)

-- "That is 14 × n − 1 bytes." "Such a tree has 22 × n − 1 bytes"
pub tree_length : (paired : Bool) (l : List (Entry Condition)) → 0 < length l → length (tree_bytes paired l) ≡ tree_size paired (length l)
tree_length paired [] h = absurd (omega arith)
tree_length false (x ∷ l) h = omega (arith, counted_size everyone false (length (x ∷ l)) (leaves_size everyone l) (x ∷ l) h refl refl, leaves_all l)
tree_length true (x ∷ l) h = omega (arith, counted_size everyone true (length (x ∷ l)) (leaves_size everyone l) (x ∷ l) h refl refl, leaves_all l)

-- ---- bytes that are put

-- one run of bytes after another
pub puts_then : {xs ys before between after : List ℕ} {at next past : ℕ} → Puts xs at before between next → Puts ys next between after past
    → Puts (xs ++ ys) at before after past
puts_then {xs} {ys} {before} {between} {after} {at} {next} {past} p q =
    record {
      written = q.written ∙ ap (λ (l : List ℕ). sets l next ys) p.written ∙ sets_after before xs ys at next (sym p.past);
      past = omega (arith, p.past, q.past, length-append xs ys);
    }

-- at the front of a list that has room for them
pub puts_front : {bytes before after : List ℕ} {next : ℕ} → Puts bytes 0 before after next → length bytes ≤ length before → after ≡ bytes ++ drop (length bytes) before
puts_front {bytes} {before} {after} {next} p h =
    p.written ∙ sets-eq bytes before 0 (omega arith) ∙ ap (λ (k : ℕ). bytes ++ drop k before) (zero-add (length bytes))

module _ (l : List ℕ) (at : ℕ) where
  pub branch_put : (byte n : ℕ) → Puts (byte ∷ to_bytes count_width n) at l (sets (set l at byte) (at + OPERANDS_AT) (to_bytes count_width n)) (at + FALLBACK_SIZE)
  unfolding to_bytes
  branch_put byte n = record { written = sets_after l (byte ∷ []) (to_bytes count_width n) at (at + OPERANDS_AT) refl; past = refl }

  pub mask_put : (byte mask : ℕ)
      → Puts (byte ∷ to_bytes MASK_WIDTH mask) at l (sets (set l at byte) (at + OPERANDS_AT) (to_bytes MASK_WIDTH mask)) (at + CONDITION_SIZE)
  unfolding to_bytes
  mask_put byte mask = record { written = sets_after l (byte ∷ []) (to_bytes MASK_WIDTH mask) at (at + OPERANDS_AT) refl; past = refl }

  pub action_put : (action : ℕ) → Puts (leaf_bytes true action) at l (set (set l at JOB_LEAF) (at + OPERANDS_AT) action) (at + JOB_LEAF_SIZE)
  unfolding leaf_bytes
  action_put action = record { written = ap (λ (k : ℕ). set (set l at JOB_LEAF) k action) (add-one at); past = refl }

  pub waiting_put : (action : ℕ) → Puts (leaf_bytes false action) at l (set l at WAITING) (at + WAITING_SIZE)
  unfolding leaf_bytes
  waiting_put action = record { written = refl; past = refl }

  pub end_put : Puts end_bytes at l (set l at END_OF_TREE) (at + END_OF_TREE_SIZE)
  end_put = record { written = refl; past = refl }

-- ---- the tree of the first entries of the columns, as it grows

module _ (mine : ℕ → Bool) (paired : Bool) where
  pub entries_snoc : (l : List (Entry Condition)) (x : Entry Condition)
      → later_entries mine paired (l ++ (x ∷ [])) ≡ later_entries mine paired l ++ entry_bytes paired x.condition (mine x.action) x.action
  unfolding later_entries
  entries_snoc [] x = append-nil (entry_bytes paired x.condition (mine x.action) x.action)
  entries_snoc (y ∷ l) x = rw (entries_snoc l x, append_assoc)

module _ (conditions absences actions : List ℕ) where
  abbrev entry : ℕ → Entry Condition
  entry i = entry_at conditions absences actions [] [] i

  -- the entries after the first, up to n
  abbrev later : ℕ → List (Entry Condition)
  later n = drop 1 (tree_entries conditions absences actions n)

  pub entries_split : (n : ℕ) → tree_entries conditions absences actions (suc n) ≡ entry 0 ∷ later (suc n)
  entries_split zero = refl
  entries_split (suc n) = rw (entries_split n)

  pub later_suc : (n : ℕ) → later (suc (suc n)) ≡ later (suc n) ++ (entry (suc n) ∷ [])
  later_suc n = rw (entries_split n)

  -- ---- the bytes of their leaves

  module _ (mine : ℕ → Bool) where
    -- one entry more
    pub leaves_grown : (i : ℕ) → 1 ≤ i → leaves_size mine (later (i + 1)) ≡ leaves_size mine (later i) + length (leaf_bytes (mine (get_or actions i 0)) (get_or actions i 0))
    leaves_grown zero h = absurd (omega arith)
    leaves_grown (suc i) h = rw (add-one (suc i)) (ap (leaves_size mine) (later_suc i) ∙ leaves_snoc mine (later (suc i)) (entry (suc i)))

  -- ---- their bytes

  module _ (mine : ℕ → Bool) (paired : Bool) where
    -- what is put of entry i, if it is not the first
    abbrev bytes_of : ℕ → List ℕ
    bytes_of i = entry_bytes paired (entry i).condition (mine (entry i).action) (entry i).action

    later_grown : (i : ℕ) → 1 ≤ i → later_entries mine paired (later (i + 1)) ≡ later_entries mine paired (later i) ++ bytes_of i
    later_grown zero h = absurd (omega arith)
    later_grown (suc i) h = rw (add-one (suc i)) (ap (later_entries mine paired) (later_suc i) ∙ entries_snoc mine paired (later (suc i)) (entry (suc i)))

    -- none is put yet
    pub later_none : (l : List ℕ) (at : ℕ) → Puts (later_entries mine paired (later 1)) at l l at
    unfolding later_entries
    later_none l at = record { written = refl; past = omega arith }

    -- one entry more, of which the condition and whose the action is have been read before
    pub later_put : {i at next past : ℕ} {before between after : List ℕ} {c : Condition} {own : Bool} → 1 ≤ i → c ≡ (entry i).condition → own ≡ mine (entry i).action
        → Puts (later_entries mine paired (later i)) at before between next → Puts (entry_bytes paired c own (entry i).action) next between after past
        → Puts (later_entries mine paired (later (i + 1))) at before after past
    later_put {i} h e f p q = rw (later_grown i h) (puts_then p (rw (e, f) at q))

    -- and it has room, where all have, whichever its condition and its action, by whose the action is
    pub later_room : (i n : ℕ) (c : Condition) (action : ℕ) → 1 ≤ i → i < n
        → length (later_entries mine paired (later i)) + length (entry_bytes paired c (mine (entry i).action) action) ≤ length (later_entries mine paired (later n))
    later_room i zero c action h l = absurd (omega arith)
    later_room i (suc n) c action h l = elim (dec_le (suc i) n) [
      | yes k ↦ omega (arith, later_room i n c action h k, grown n (omega arith))
      | no k ↦ let same : n ≡ i = omega arith in
          rw same (omega (
            arith,
            grown i h,
            entry_size paired c (mine (entry i).action) action,
            entry_size paired (entry i).condition (mine (entry i).action) (entry i).action,
            leaf_size_is (mine (entry i).action) action,
            leaf_size_is (mine (entry i).action) (entry i).action,
          ))
    ]
      where
        grown : (i : ℕ) → 1 ≤ i → length (later_entries mine paired (later (suc i))) ≡ length (later_entries mine paired (later i)) + length (bytes_of i)
        grown i h =
            ap (λ (k : ℕ). length (later_entries mine paired (later k))) (sym (add-one i)) ∙ ap length (later_grown i h)
            ∙ length-append (later_entries mine paired (later i)) (bytes_of i)

    -- ---- the whole tree: its first entry, the others, END

    module _ (n : ℕ) (some : 1 ≤ n) where
      split : tree_entries conditions absences actions n ≡ entry 0 ∷ later n
      split = by_size n some
        where
          by_size : (k : ℕ) → 1 ≤ k → tree_entries conditions absences actions k ≡ entry 0 ∷ later k
          by_size zero h = absurd (omega arith)
          by_size (suc k) h = entries_split k

      count : length (entry 0 ∷ later n) ≡ n
      count = ap length (sym split) ∙ length_prefix entry n

      -- the condition of entry 0 may have been read before
      pub tree_room : (c : Condition) → c ≡ (entry 0).condition → length (own_tree mine paired (tree_entries conditions absences actions n))
          ≡ length (first_bytes paired n c) + length (later_entries mine paired (later n)) + length end_bytes
      tree_room c e =
          rw e (ap (λ (l : List (Entry Condition)). length (own_tree mine paired l)) split ∙ parts_size mine paired (entry 0) (later n)
          ∙ ap (λ (k : ℕ). length (first_bytes paired k (entry 0).condition) + length (later_entries mine paired (later n)) + length end_bytes) count)

      pub tree_put : {c : Condition} {l between others after : List ℕ} {first next past : ℕ} → c ≡ (entry 0).condition
          → Puts (first_bytes paired n c) 0 l between first → Puts (later_entries mine paired (later n)) first between others next → Puts end_bytes next others after past
          → Puts (own_tree mine paired (tree_entries conditions absences actions n)) 0 l after past
      unfolding own_tree
      tree_put {l = l} {after = after} {past = past} is p q e =
          subst (λ (b : List ℕ). Puts b 0 l after past)
          (ap (λ (k : ℕ). first_bytes paired k (entry 0).condition ++ (later_entries mine paired (later n) ++ end_bytes)) (sym count) ∙ ap (own_tree mine paired) (sym split))
          (puts_then (rw is at p) (puts_then q e))
