-- The walk is the tree reader and the tick together: each way through a node, or through a turn of a row, gives the walk's definition. Equations
-- are turned so that a function's answers chain with them.
-- Assumes nothing.
use Prim.Native.Nat.{ℕ, zero, suc, ◌+◌, ◌-◌, ◌≤◌, ◌<◌}
use Rattle.std.proofs.Math.Decide.{dec_le}
use native.Mathlib.Omega.{arith}
use Rattle.std.specs.Prelude.{◌≡◌, Bool, List, [], get_or, if◌then◌else◌}
use Rattle.std.proofs.Math.Path.{refl, sym, ap}
use Rattle.std.proofs.Common.{◌∙◌, lt-ltb, le-ltb}
use Rattle.std.proofs.Math.Bool.{true, false}
use Rattle.refusal.specs.declared.Refusal.{Refusal}
use Rattle.refusal.specs.Checked.{Checked, accepted, refused, refused_by, and_then}
use Rattle.refusal.specs.CheckedLaws.{not_both, accepted_same}
use Rattle.commands.specs.Commands.{Past}
use Rattle.reading.specs.declared.Reading.{Reading}
use Rattle.tree.specs.declared.Kind.{Kind}
use Rattle.tree.specs.declared.Leaf.{Leaf}
use Rattle.tree.specs.declared.Status.{Status}
use Rattle.tree.specs.declared.Status.TheVariants.{Success}
use Rattle.tree.specs.Tree.{Tree, Row, more}
use Rattle.tree.specs.ReadTree.{max_depth, branch, leaf, node_at, in_range, read_row, read_node}
use Rattle.tree.specs.ReadTreeLaws.{branch_some, read_onward}
use Rattle.tree.specs.Tick.{leaf_answer, kind_index, status_index, goes_on, Verdict, tick_by, tick_row}
use Rattle.tree.specs.TickLaws.{row_on, row_stop}
use Rattle.tick_walk.specs.declared.Context.{Context}
use Rattle.tick_walk.specs.Walk.{levels_at, answer_if, walk_leaf, walked, walk_row, nodes_at, walk_node, walk_children, RowLeft}

-- ---- answers in a row

then_then : {A B C : Type 0} (x : Checked A) (k : A → Checked B) (m : B → Checked C) → and_then (and_then x k) m ≡ and_then x (λ a. and_then (k a) m)
then_then (accepted a) k m = refl
then_then (refused n p) k m = refl

then_same : {A B : Type 0} (x : Checked A) (k m : A → Checked B) → ((a : A) → k a ≡ m a) → and_then x k ≡ and_then x m
then_same (accepted a) k m e = e a
then_same (refused n p) k m e = refl

-- ---- a row of children

module _ (rows : List (List Bool)) (r : Reading) (kind : Kind) (child : ℕ → Checked (Past Tree)) where
  abbrev answer : Tree → Status
  answer t = (tick_by rows r t).answer

  -- a row that was read, and answers f
  abbrev past : (Row → Status) → Past Row → Checked (Past Status)
  past f row = accepted (record { value = f row.value; next = row.next })

  -- a row of one child and n more, that answers f
  abbrev row_by : (Row → Status) → ℕ → ℕ → Checked (Past Status)
  row_by f n at = and_then (read_row child n at) (past f)

  abbrev longer : Past Tree → Past Row → Checked (Past Row)
  longer t row = accepted (record { value = more t.value row.value; next = row.next })

  abbrev ticked : Row → Status
  ticked row = (tick_row rows r row kind).answer

  -- a row that is decided keeps its answer
  row_decided : (n : ℕ) (a : Status) (at : ℕ) → walk_row rows r kind child (suc n) false a at ≡ row_by (λ row. a) n at
  unfolding walk_row read_row
  row_decided zero a at = sym (then_then (child at) _ _)
  row_decided (suc n) a at =
      then_same (child at) _ _ (λ t. row_decided n a t.next ∙ sym (then_then (read_row child n t.next) _ _)) ∙ sym (then_then (child at) _ _)

  -- a row that is live answers as it is ticked
  row_live : (n : ℕ) (a : Status) (at : ℕ) → walk_row rows r kind child (suc n) true a at ≡ row_by ticked n at
  unfolding walk_row read_row tick_by
  row_live zero a at = sym (then_then (child at) _ _)
  row_live (suc n) a at = then_same (child at) _ _ (λ t. first t (goes_on rows kind (answer t.value)) refl (row_live n)) ∙ sym (then_then (child at) _ _)
    where
      first : (t : Past Tree) (g : Bool) → goes_on rows kind (answer t.value) ≡ g
          → ((a : Status) (at : ℕ) → walk_row rows r kind child (suc n) true a at ≡ row_by ticked n at)
          → walk_row rows r kind child (suc n) g (answer t.value) t.next ≡ and_then (and_then (read_row child n t.next) (longer t)) (past ticked)
      first t true e rest =
          rest (answer t.value) t.next
          ∙ then_same (read_row child n t.next) (past ticked) (λ row. and_then (longer t row) (past ticked))
          (λ row. ap (λ (v : Verdict). accepted (record { value = v.answer; next = row.next })) (sym (row_on rows r t.value row.value kind e))) ∙ sym (then_then (read_row child n t.next) (longer t) (past ticked))
      first t false e rest =
          row_decided n (answer t.value) t.next
          ∙ then_same (read_row child n t.next) (past (λ row. answer t.value)) (λ row. and_then (longer t row) (past ticked))
          (λ row. ap (λ (v : Verdict). accepted (record { value = v.answer; next = row.next })) (sym (row_stop rows r t.value row.value kind e))) ∙ sym (then_then (read_row child n t.next) (longer t) (past ticked))

  row_walked : (n : ℕ) (live : Bool) (at : ℕ) → walk_row rows r kind child (suc n) live Success at ≡ row_by (λ row. answer_if live (ticked row)) n at
  row_walked n true at = row_live n Success at
  row_walked n false at = row_decided n Success at

  -- a row of one child answers as that child does
  pub row_one : (at : ℕ) → walk_row rows r kind child 1 true Success at ≡ walked rows r true (child at)
  unfolding walk_row
  row_one at = refl

-- ---- a node

module _ (rows : List (List Bool)) (s : List ℕ) (c : Context) (at depth : ℕ) (live : Bool) where
  -- 13
  pub node_malformed : (n p : ℕ) → refused n p ≡ node_at s at → refused n p ≡ walk_node rows s c at depth live
  unfolding read_node
  node_malformed n p e = by_levels (levels_at depth)
    where
      by_levels : (levels : ℕ) → refused n p ≡ walked rows c.reading live (read_node s c.facts c.jobs levels at)
      by_levels zero = rw (← e)
      by_levels (suc levels) = rw (← e)

  deepest : max_depth < depth → levels_at depth ≡ 0
  deepest d = omega arith

  level : depth ≤ max_depth → levels_at depth ≡ suc (levels_at (depth + 1))
  level d = omega arith

  pub node_leaf : (x : Leaf) (next : ℕ) → accepted (record { value = leaf x; next = next }) ≡ node_at s at
      → walk_leaf c at next depth live x ≡ walk_node rows s c at depth live
  unfolding walk_leaf read_node tick_by
  node_leaf x next e = elim (dec_le depth max_depth) [
    | yes d ↦ rw (le-ltb max_depth depth d, level d, ← e) (by_range (in_range c.facts c.jobs x))
    | no d ↦ let h : max_depth < depth = omega arith in rw (lt-ltb max_depth depth h, deepest h, ← e)
  ]
    where
      by_range : (b : Bool) → (if b then accepted (record { value = answer_if live (leaf_answer c.reading x); next = next }) else refused 15 at)
          ≡ walked rows c.reading live (if b then accepted (record { value = Tree.leaf x at; next = next }) else refused 15 at)
      by_range true = refl
      by_range false = refl

  -- a node with children
  module _ (kind : Kind) (count next : ℕ) (e : accepted (record { value = branch kind count; next = next }) ≡ node_at s at) where
    -- 14
    pub node_deep : max_depth < depth → refused 14 at ≡ walk_node rows s c at depth live
    unfolding read_node
    node_deep d = rw (deepest d, ← e)

    pub node_row : depth ≤ max_depth → walk_children rows s c kind (depth + 1) count live Success next ≡ walk_node rows s c at depth live
    unfolding read_node tick_by
    node_row d = by_count count e (branch_some s at kind count next e)
      where
        by_count : (n : ℕ) → accepted (record { value = branch kind n; next = next }) ≡ node_at s at → 1 ≤ n
            → walk_children rows s c kind (depth + 1) n live Success next ≡ walk_node rows s c at depth live
        by_count zero q h = absurd (omega arith)
        by_count (suc n) q h =
            let less : suc n - 1 ≡ n = omega arith in
            rw (level d, ← q, less)
            (row_walked rows c.reading kind (nodes_at s c (depth + 1)) n live next ∙ sym (then_then (read_row (nodes_at s c (depth + 1)) n next) _ _))

-- ---- a turn of a row, in the code's own values: `at` is the offset, `left` the children left, `going` and `a` what is carried

module _ (rows : List (List Bool)) (s : List ℕ) (c : Context) (kind : Kind) (depth first count : ℕ) (live : Bool) where
  abbrev Left : ℕ → ℕ → Bool → Status → Type 0
  Left = RowLeft rows s c kind depth first count live

  abbrev whole : Checked (Past Status)
  whole = walk_children rows s c kind depth count live Success first

  pub row_begins : Left first count live Success
  row_begins = record { is = refl; onward = omega arith }

  module _ (at left : ℕ) (going : Bool) (a : Status) (i : Left at left going a) where
    pub row_ends : left ≤ 0 → accepted (record { value = a; next = at }) ≡ whole
    unfolding walk_row
    row_ends l = let e : left ≡ 0 = omega arith in rw e at i.is

    module _ (more : 0 < left) where
      taken : left ≡ suc (left - 1)
      taken = omega arith

      pub row_stops : (x : Refusal) → refused_by x ≡ walk_node rows s c at depth going → refused_by x ≡ whole
      unfolding walk_row
      row_stops x e = by_child (nodes_at s c depth at) refl e ∙ i.is
        where
          by_child : (t : Checked (Past Tree)) → nodes_at s c depth at ≡ t → refused_by x ≡ walked rows c.reading going t
              → refused_by x ≡ walk_children rows s c kind depth left going a at
          by_child (accepted t) f q = absurd (not_both q)
          by_child (refused j k) f q = rw (taken, f) q

      module _ (b : Status) (next : ℕ) (child_is : accepted (record { value = b; next = next }) ≡ walk_node rows s c at depth going) where
        child_onward : first ≤ next
        child_onward = by_child (nodes_at s c depth at) refl child_is
          where
            by_child : (t : Checked (Past Tree)) → nodes_at s c depth at ≡ t → accepted (record { value = b; next = next }) ≡ walked rows c.reading going t → first ≤ next
            by_child (accepted t) f q =
                let en : next ≡ t.next = ap (λ (p : Past Status). p.next) (accepted_same q) in
                omega (arith, i.onward, read_onward s c.facts c.jobs (levels_at depth) at t f)
            by_child (refused j k) f q = absurd (not_both (sym q))

        -- the child was ticked: the row goes on by document 01's two rows of four
        pub row_goes : (g : Bool) (a' : Status) (k j : ℕ) → going ≡ true → k ≡ kind_index kind → j ≡ status_index b → g ≡ get_or (get_or rows k []) j false → a' ≡ b
            → Left next (left - 1) g a'
        unfolding walk_row
        row_goes g a' k j o ek ej eg ea = record { is = by_child (left - 1) taken (nodes_at s c depth at) refl (rw o at child_is) ∙ i.is; onward = child_onward }
          where
            by_child : (n : ℕ) → left ≡ suc n → (t : Checked (Past Tree)) → nodes_at s c depth at ≡ t
                → accepted (record { value = b; next = next }) ≡ walked rows c.reading true t
                → walk_children rows s c kind depth n g a' next ≡ walk_children rows s c kind depth left going a at
            by_child n l (accepted t) f q =
                let eb : b ≡ (tick_by rows c.reading t.value).answer = ap (λ (p : Past Status). p.value) (accepted_same q) in
                let en : next ≡ t.next = ap (λ (p : Past Status). p.next) (accepted_same q) in
                let goes : g ≡ goes_on rows kind b = rw (ek, ej) at eg in
                rw (l, o, f, goes, ea, en, ← eb)
            by_child n l (refused m p) f q = absurd (not_both (sym q))

        -- the child was only checked: the answer stays
        pub row_keeps : (g : Bool) (a' : Status) → going ≡ false → g ≡ going → a' ≡ a → Left next (left - 1) g a'
        unfolding walk_row
        row_keeps g a' o eg ea = record { is = by_child (left - 1) taken (nodes_at s c depth at) refl (rw o at child_is) ∙ i.is; onward = child_onward }
          where
            by_child : (n : ℕ) → left ≡ suc n → (t : Checked (Past Tree)) → nodes_at s c depth at ≡ t
                → accepted (record { value = b; next = next }) ≡ walked rows c.reading false t
                → walk_children rows s c kind depth n g a' next ≡ walk_children rows s c kind depth left going a at
            by_child n l (accepted t) f q =
                let en : next ≡ t.next = ap (λ (p : Past Status). p.next) (accepted_same q) in
                rw (l, eg, ea, o, f, en)
            by_child n l (refused m p) f q = absurd (not_both (sym q))
