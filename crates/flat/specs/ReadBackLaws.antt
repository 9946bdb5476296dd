-- The bytes of a list's tree are read back as its tree.
-- Assumes nothing.
use Prim.Native.Nat.{ℕ, suc, ◌+◌, ◌-◌, ◌^◌, ◌≤◌, ◌<◌}
use Rattle.std.proofs.Common.{add-zero, ◌∙◌, length-drop, drop-drop, drop_at, get_or-drop}
use Rattle.std.proofs.Math.Nat.{zero-add}
use native.Mathlib.Omega.{arith}
use Rattle.std.specs.Prelude.{◌≡◌, Bool, T}
use Rattle.std.proofs.Math.Path.{refl, sym, ap}
use Rattle.std.proofs.Math.Bool.{true, false}
use mathlib.Core.List.{List, [], ◌∷◌, ◌++◌, append_assoc}
use Rattle.std.proofs.Math.ListN.{length, get_or, drop, length-append}
use borrow.Author.Tests.{lt-ltb, le-leb, eq-eqb}
use Rattle.base.specs.Bools.{is_true, and_left, and_right}
use Rattle.masks.specs.Sets.{within}
use Rattle.masks.specs.Laws.{within_word}
use Rattle.refusal.specs.Checked.{accepted}
use Rattle.commands.specs.declared.Found.TheVariants.{Whole}
use Rattle.commands.specs.Commands.{CONDITION, PAIR, JOB_LEAF, WAITING, END_OF_TREE, OPERANDS_AT, ABSENT_AT, MASK_WIDTH, width_of, command_at}
use Rattle.commands.specs.CommandLaws.{at_whole}
use Rattle.numbers.specs.Numbers.{to_bytes, number_at}
use Rattle.numbers.specs.NumberLaws.{from_to, read_drop}
use Rattle.reading.specs.declared.Reading.{Reading}
use Rattle.reading.specs.Reading.{sound}
use Rattle.reading.specs.ReadingLaws.{checked_sound}
use Rattle.conditions.specs.declared.Condition.{Condition}
use Rattle.conditions.specs.Condition.{plain, condition_within}
use Rattle.table.specs.Table.{Table}
use Rattle.table.specs.Read.{read_table}
use Rattle.planning.specs.Expansion.{Entry}
use Rattle.planning.specs.Columns.{max_entries}
use Rattle.tree.specs.declared.Kind.{Kind}
use Rattle.tree.specs.declared.Kind.TheVariants.{Fallback, Sequence}
use Rattle.tree.specs.declared.Leaf.TheVariants as Leaf
use Rattle.tree.specs.Tree.{Tree, node}
use Rattle.tree.specs.ReadTree.{max_tree_bytes, max_children, max_depth, branch, leaf, whole_at, kind_byte, count_width, count_at, mask_at, node_at, read_end, read_row, read_node, read_tree}
use Rattle.tree.specs.ReadTreeLaws.{condition_whole, pair_whole, action_whole, wait_whole, branch_counted}
use Rattle.tree.specs.Tick.{tick_tree}
use Rattle.tree.specs.TickBytes.{tick_checked, tick_bytes}
use Rattle.tree.specs.TickBytesLaws.{bytes_read}
use Rattle.flat.specs.TreeBytes.{branch_bytes, condition_bytes, leaf_bytes, end_bytes, first_bytes, entry_bytes, later_entries, own_tree, condition_at, action_at, past_entry, root_condition_at}
use Rattle.flat.specs.TreeBytesLaws.{tree_most}
use Rattle.flat.specs.FlatTree.{leaf_of, later_tree, row_from, root_tree, later_at, tree_of, Each, Fits}

-- ---- bytes that stand at an offset

drop_next : (s xs ys : List ℕ) (at : ℕ) → drop at s ≡ xs ++ ys → drop (at + length xs) s ≡ ys
drop_next s xs ys at e = sym (drop-drop (length xs) at s) ∙ ap (drop (length xs)) e ∙ drop_at xs ys (length xs) refl

here : (s xs : List ℕ) (at x : ℕ) → drop at s ≡ x ∷ xs → get_or s at 0 ≡ x
here s xs at x e = ap (λ (k : ℕ). get_or s k 0) (sym (add-zero at)) ∙ sym (get_or-drop at s 0 0) ∙ ap (λ (l : List ℕ). get_or l 0 0) e

room : (s xs ys : List ℕ) (at : ℕ) → drop at s ≡ xs ++ ys → length s - at ≡ length xs + length ys
room s xs ys at e = sym (length-drop at s) ∙ ap length e ∙ length-append xs ys

-- ---- nodes that stand at an offset

module _ (s rest : List ℕ) (at : ℕ) where
  -- a condition with one mask is read back if nothing is to be absent
  node_condition : (paired : Bool) (c : Condition) → c.present < 2 ^ 64 → c.absent < 2 ^ 64 → (paired ≡ false → c.absent ≡ 0)
      → drop at s ≡ condition_bytes paired c ++ rest
      → accepted (record { value = leaf (Leaf.Condition c); next = at + length (condition_bytes paired c) }) ≡ node_at s at
  unfolding condition_bytes to_bytes number_at
  node_condition false c h k q e =
      let value : mask_at s at ≡ c.present =
      read_drop MASK_WIDTH s at OPERANDS_AT ∙ ap (λ (l : List ℕ). number_at MASK_WIDTH l OPERANDS_AT) e ∙ from_to MASK_WIDTH c.present h in
      let same : plain (mask_at s at) ≡ c = rw (value, ← q refl) in
      let size = room s (condition_bytes false c) rest at e in
      rw same at (condition_whole s at (omega arith) (here s _ at CONDITION e) (omega arith))
  node_condition true c h k q e =
      let present : mask_at s at ≡ c.present =
      read_drop MASK_WIDTH s at OPERANDS_AT ∙ ap (λ (l : List ℕ). number_at MASK_WIDTH l OPERANDS_AT) e ∙ from_to MASK_WIDTH c.present h in
      let absent : number_at MASK_WIDTH s (at + ABSENT_AT) ≡ c.absent =
      read_drop MASK_WIDTH s at ABSENT_AT ∙ ap (λ (l : List ℕ). number_at MASK_WIDTH l ABSENT_AT) e ∙ from_to MASK_WIDTH c.absent k in
      let size = room s (condition_bytes true c) rest at e in
      rw (present, absent) at (pair_whole s at (omega arith) (here s _ at PAIR e) (omega arith))

  node_leaf : (own : Bool) (job : ℕ) → drop at s ≡ leaf_bytes own job ++ rest
      → accepted (record { value = leaf (leaf_of own job); next = at + length (leaf_bytes own job) }) ≡ node_at s at
  unfolding leaf_bytes
  node_leaf true job e =
      let value : get_or s (at + OPERANDS_AT) 0 ≡ job = here s rest (at + OPERANDS_AT) job (drop_next s (JOB_LEAF ∷ []) (job ∷ rest) at e) in
      let size = room s (leaf_bytes true job) rest at e in
      rw value at (action_whole s at (omega arith) (here s _ at JOB_LEAF e) (omega arith))
  node_leaf false job e =
      let size = room s (leaf_bytes false job) rest at e in
      wait_whole s at (omega arith) (here s _ at WAITING e)

  node_branch : (kind : Kind) (n : ℕ) → 1 ≤ n → n ≤ max_children → drop at s ≡ branch_bytes kind n ++ rest
      → accepted (record { value = branch kind n; next = at + length (branch_bytes kind n) }) ≡ node_at s at
  unfolding to_bytes number_at
  node_branch kind n lo hi e =
      let value : count_at s at ≡ n = read_drop count_width s at OPERANDS_AT ∙ ap (λ (l : List ℕ). number_at count_width l OPERANDS_AT) e ∙ from_to count_width n (omega arith) in
      let size = room s (branch_bytes kind n) rest at e in
      rw value at (branch_counted s at (omega arith) kind (here s _ at (kind_byte kind) e) (omega arith) (λ z. omega (arith, value)) (rw value hi))

end_read : (s : List ℕ) (at : ℕ) (t : Tree) → drop at s ≡ end_bytes → read_end s t at ≡ accepted t
unfolding read_end whole_at width_of
end_read s at t e =
    let size = room s end_bytes [] at e in
    let b = here s [] at END_OF_TREE e in
    let whole : command_at s at ≡ Whole (get_or s at 0) (at + 1 + 0) = at_whole s at (omega arith) 0 (rw b) (omega arith) in
    rw (whole, b, eq-eqb (at + 1 + 0) (length s) (omega arith))

-- ---- entries, for a table with so many facts and jobs

module _ (mine : ℕ → Bool) (paired : Bool) (s : List ℕ) (facts jobs : ℕ) (few : facts ≤ 64) where
  condition_read : (levels at : ℕ) (c : Condition) (rest : List ℕ) → T (condition_within facts c) → (paired ≡ false → c.absent ≡ 0)
      → drop at s ≡ condition_bytes paired c ++ rest
      → read_node s facts jobs (suc levels) at ≡ accepted (record { value = Tree.leaf (Leaf.Condition c) at; next = at + length (condition_bytes paired c) })
  unfolding read_node
  condition_read levels at c rest w q e =
      let present = within_word facts c.present few (and_left (within facts c.present) _ w) in
      let absent = within_word facts c.absent few (and_right (within facts c.present) _ w) in
      rw (← node_condition s rest at paired c present absent q e, is_true (condition_within facts c) w)

  leaf_read : (own : Bool) (levels at job : ℕ) (rest : List ℕ) → job < jobs → drop at s ≡ leaf_bytes own job ++ rest
      → read_node s facts jobs (suc levels) at ≡ accepted (record { value = Tree.leaf (leaf_of own job) at; next = at + length (leaf_bytes own job) })
  unfolding read_node
  leaf_read true levels at job rest h e = rw (← node_leaf s rest at true job e, lt-ltb job jobs h)
  leaf_read false levels at job rest h e = rw (← node_leaf s rest at false job e)

  later_read : (levels at : ℕ) (x : Entry Condition) (rest : List ℕ) → T (condition_within facts x.condition)
      → (paired ≡ false → x.condition.absent ≡ 0) → x.action < jobs → drop at s ≡ entry_bytes paired x.condition (mine x.action) x.action ++ rest
      → read_node s facts jobs (suc (suc levels)) at ≡ accepted (record { value = later_tree mine paired x at; next = past_entry mine paired x at })
  unfolding read_node read_row entry_bytes
  later_read levels at x rest w q h e =
      let c = condition_bytes paired x.condition in
      let a = leaf_bytes (mine x.action) x.action in
      let all : drop at s ≡ branch_bytes Sequence 2 ++ (c ++ (a ++ rest)) =
      e ∙ append_assoc (branch_bytes Sequence 2) (c ++ a) rest ∙ ap (λ (l : List ℕ). branch_bytes Sequence 2 ++ l) (append_assoc c a rest) in
      let head = node_branch s (c ++ (a ++ rest)) at Sequence 2 (omega arith) (omega arith) all in
      let from_condition = drop_next s (branch_bytes Sequence 2) (c ++ (a ++ rest)) at all in
      let first = condition_read levels (condition_at at) x.condition (a ++ rest) w q from_condition in
      let second = leaf_read (mine x.action) levels (action_at paired x at) x.action rest h (drop_next s c (a ++ rest) (condition_at at) from_condition) in
      let past : action_at paired x at + length a ≡ past_entry mine paired x at = omega (arith, length-append (branch_bytes Sequence 2) (c ++ a), length-append c a) in
      rw (← head, first, second, past)

  row_read : (levels : ℕ) (l : List (Entry Condition)) (t : Tree) (before at : ℕ) (rest : List ℕ)
      → Each (λ x. T (condition_within facts x.condition)) l → (paired ≡ false → Each (λ x. x.condition.absent ≡ 0) l) → Each (λ x. x.action < jobs) l
      → read_node s facts jobs (suc (suc levels)) before ≡ accepted (record { value = t; next = at }) → drop at s ≡ later_entries mine paired l ++ rest
      → read_row (read_node s facts jobs (suc (suc levels))) (length l) before
      ≡ accepted (record { value = row_from mine paired t l at; next = at + length (later_entries mine paired l) })
  unfolding read_row row_from later_entries
  row_read levels [] t before at rest w q h e d = let same : at + 0 ≡ at = omega arith in rw (e, same)
  row_read levels (x ∷ l) t before at rest w q h e d =
      let bytes = entry_bytes paired x.condition (mine x.action) x.action in
      let others = later_entries mine paired l in
      let split = d ∙ append_assoc bytes others rest in
      let child = later_read levels at x (others ++ rest) w.0 (λ p. (q p).0) h.0 split in
      let past : past_entry mine paired x at + length others ≡ at + length (bytes ++ others) = omega (arith, length-append bytes others) in
      let from_next = drop_next s bytes (others ++ rest) at split in
      rw (e, row_read levels l (later_tree mine paired x at) at (past_entry mine paired x at) rest w.1 (λ p. (q p).1) h.1 child from_next, past)

-- ---- the whole tree

-- a list that fits has no more entries than a node has children, and its tree no more bytes than a tree may have
few_children : (paired : Bool) → max_entries paired ≤ max_children
few_children false = omega arith
few_children true = omega arith

few_bytes : (mine : ℕ → Bool) (paired : Bool) (l : List (Entry Condition)) → 0 < length l → length l ≤ max_entries paired → length (own_tree mine paired l) ≤ max_tree_bytes
few_bytes mine false l h k = omega (arith, tree_most mine false l h)
few_bytes mine true l h k = omega (arith, tree_most mine true l h)

module _ (mine : ℕ → Bool) (paired : Bool) (facts jobs : ℕ) (x : Entry Condition) (l : List (Entry Condition)) (f : Fits paired facts jobs (x ∷ l)) where
  abbrev bytes : List ℕ
  bytes = own_tree mine paired (x ∷ l)

  abbrev size : ℕ
  size = length (x ∷ l)

  abbrev condition : List ℕ
  condition = condition_bytes paired x.condition

  -- the bytes of the entries after the first, and where they begin
  abbrev rest : List ℕ
  rest = later_entries mine paired l

  abbrev rest_at : ℕ
  rest_at = later_at paired size x

  abbrev root : Tree
  root = node Fallback (row_from mine paired (root_tree size x) l rest_at)

  from_start : (xs ys : List ℕ) → drop 0 bytes ≡ xs ++ ys → drop (length xs) bytes ≡ ys
  from_start xs ys e = ap (λ (k : ℕ). drop k bytes) (sym (zero-add (length xs))) ∙ drop_next bytes xs ys 0 e

  start : drop 0 bytes ≡ branch_bytes Fallback size ++ (condition ++ (rest ++ end_bytes))
  unfolding own_tree first_bytes
  start = append_assoc (branch_bytes Fallback size) condition (rest ++ end_bytes)

  first : drop (root_condition_at size) bytes ≡ condition ++ (rest ++ end_bytes)
  first = from_start (branch_bytes Fallback size) (condition ++ (rest ++ end_bytes)) start

  others : drop rest_at bytes ≡ rest ++ end_bytes
  unfolding own_tree
  others = from_start (first_bytes paired size x.condition) (rest ++ end_bytes) refl

  last : drop (rest_at + length rest) bytes ≡ end_bytes
  last = drop_next bytes rest end_bytes rest_at others

  root_read : read_node bytes facts jobs max_depth 0 ≡ accepted (record { value = root; next = rest_at + length rest })
  unfolding read_node first_bytes
  root_read =
      let head = node_branch bytes _ 0 Fallback size f.some (omega (arith, f.few, few_children paired)) start in
      let child =
      condition_read mine paired bytes facts jobs f.facts_fit (max_depth - 2) (root_condition_at size) x.condition _ f.conditions_fit.0
      (λ p. (f.plain_fit p).0) first in
      let past : root_condition_at size + length condition ≡ rest_at = sym (length-append (branch_bytes Fallback size) condition) in
      let row =
      row_read mine paired bytes facts jobs f.facts_fit (max_depth - 3) l (root_tree size x) (root_condition_at size) rest_at end_bytes f.conditions_fit.1
      (λ p. (f.plain_fit p).1) f.actions_fit (rw past at child) others in
      let less : suc (length l) - 1 ≡ length l = omega arith in
      let begins : 0 + length (branch_bytes Fallback size) ≡ root_condition_at size = zero-add (length (branch_bytes Fallback size)) in
      rw (← head, less, begins, row)

  whole_read : read_tree bytes facts jobs ≡ accepted root
  unfolding read_tree
  whole_read =
      rw (le-leb (length bytes) max_tree_bytes (few_bytes mine paired (x ∷ l) (omega arith) f.few), root_read) (end_read bytes (rest_at + length rest) root last)

pub tree_read : (mine : ℕ → Bool) (paired : Bool) (facts jobs : ℕ) (l : List (Entry Condition)) → Fits paired facts jobs l
    → read_tree (own_tree mine paired l) facts jobs ≡ accepted (tree_of mine paired l)
unfolding tree_of
tree_read mine paired facts jobs [] f = absurd (omega (arith, f.some))
tree_read mine paired facts jobs (x ∷ l) f = whole_read mine paired facts jobs x l f

-- a tick on the tree of a list, under a table with so many facts and jobs
pub tick_checked_read : (mine : ℕ → Bool) (paired : Bool) (facts jobs : ℕ) (l : List (Entry Condition)) → Fits paired facts jobs l → (place : ℕ) (r : Reading)
    → sound facts r ≡ true → tick_checked facts jobs (own_tree mine paired l) place r ≡ accepted (tick_tree r (tree_of mine paired l))
unfolding tick_checked
tick_checked_read mine paired facts jobs l f place r h = rw (← checked_sound facts r place h, tree_read mine paired facts jobs l f)

-- and from a table's bytes
pub tick_read : (mine : ℕ → Bool) (paired : Bool) (table : List ℕ) (t : Table) → read_table table ≡ accepted t → (l : List (Entry Condition))
    → Fits paired t.facts (length t.jobs) l → (r : Reading) → sound t.facts r ≡ true
    → tick_bytes table (own_tree mine paired l) r ≡ accepted (tick_tree r (tree_of mine paired l))
tick_read mine paired table t e l f r h =
    bytes_read table (own_tree mine paired l) t e r ∙ tick_checked_read mine paired t.facts (length t.jobs) l f 0 r h
