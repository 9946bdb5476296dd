-- The tree reader's definition, way by way: what each test leads to, and what an accepted node tells. Equations are turned so that a function's
-- answers chain with them.
-- Assumes nothing.
use Prim.Native.Nat.{ℕ, zero, suc, ◌+◌, ◌-◌, ◌≤◌, ◌<◌}
use Rattle.std.proofs.Math.Decide.{dec_le}
use native.Mathlib.Omega.{arith}
use Rattle.std.proofs.Math.Path.{◌≡◌, refl, ap, subst}
use Rattle.std.proofs.Common.{sym, ◌∙◌}
use Rattle.std.specs.Prelude.{Bool, ◌&&◌, List, eqb, ltb, length, get_or, if◌then◌else◌, None, Option, Some}
use Rattle.std.proofs.Math.Bool.{true, false}
use borrow.Author.Tests.{eq-eqb, ne_eqb, le-leb, lt-leb, leb-true, le-ltb, lt-ltb, ltb-true, ltb-false}
use Rattle.std.proofs.Math.Dec.{leb}
use Rattle.refusal.specs.Checked.{Checked, accepted, refused, and_then}
use Rattle.refusal.specs.CheckedLaws.{not_both, accepted_same, accepted_then, accepted_if}
use Rattle.commands.specs.declared.Found.{Found}
use Rattle.commands.specs.declared.Found.TheVariants.{Missing, Unknown, Cut, Whole}
use Rattle.commands.specs.Commands.{FALLBACK, SEQUENCE, CONDITION, JOB_LEAF, END_OF_TREE, FALLBACK_SIZE, CONDITION_SIZE, JOB_LEAF_SIZE, PAIR, PAIR_SIZE, WAITING, WAITING_SIZE, OPERANDS_AT, MASK_WIDTH, Past, width_of, command_at}
use Rattle.commands.specs.CommandLaws.{at_missing, at_unknown, at_whole, at_cut, WholeAt, whole_told}
use Rattle.conditions.specs.Condition.{plain}
use Rattle.tree.specs.declared.Kind.{Kind}
use Rattle.tree.specs.declared.Kind.TheVariants.{Fallback, Sequence}
use Rattle.tree.specs.declared.Leaf.TheVariants.{Condition, Action, Wait}
use Rattle.tree.specs.Tree.{Tree, Row, node, one, more}
use Rattle.tree.specs.ReadTree.{max_children, Node, branch, leaf, whole_in, whole_at, kind_byte, count_width, count_at, child_count, mask_at, pair_at, operands_of, node_at, read_end, in_range, read_row, read_operands, read_node}

-- how the test for operands runs
pub cut_test : (n at size : ℕ) → at < n → ltb (n - at) size ≡ ltb n (at + size)
cut_test n at size h = split (ltb (n - at) size) refl
  where
    split : (t : Bool) → ltb (n - at) size ≡ t → t ≡ ltb n (at + size)
    split true e = sym (lt-ltb n (at + size) (omega (arith, ltb-true (n - at) size e)))
    split false e = sym (le-ltb n (at + size) (omega (arith, ltb-false (n - at) size e)))

-- ---- the node at an offset

module _ (s : List ℕ) (at : ℕ) where
  pub node_missing : length s ≤ at → refused 13 (length s) ≡ node_at s at
  unfolding node_at whole_at
  node_missing h = rw (at_missing s at h)

  module _ (h : at < length s) where
    -- a command whose operands have a width, by the table of commands
    module _ (w : ℕ) (e : width_of (get_or s at 0) ≡ Some w) where
      past : at + 1 + w ≡ at + (1 + w)
      past = omega arith

      node_cut : length s < at + (1 + w) → refused 13 at ≡ node_at s at
      unfolding node_at whole_at
      node_cut l = rw (at_cut s at h w e (omega arith))

      node_whole : at + (1 + w) ≤ length s → (n : Checked Node) → operands_of s at (get_or s at 0) ≡ n
          → (and_then n λ v. accepted (record { value = v; next = at + (1 + w) })) ≡ node_at s at
      unfolding node_at whole_at
      node_whole l n o = rw (at_whole s at h w e (omega arith), o, past)

    module _ (b : get_or s at 0 ≡ CONDITION) where
      pub condition_cut : length s < at + CONDITION_SIZE → refused 13 at ≡ node_at s at
      unfolding width_of
      condition_cut l = node_cut MASK_WIDTH (rw b) l

      pub condition_whole : at + CONDITION_SIZE ≤ length s
          → accepted (record { value = leaf (Condition (plain (mask_at s at))); next = at + CONDITION_SIZE }) ≡ node_at s at
      unfolding width_of operands_of
      condition_whole l = node_whole MASK_WIDTH (rw b) l (accepted (leaf (Condition (plain (mask_at s at))))) (rw b)

    module _ (b : get_or s at 0 ≡ PAIR) where
      pub pair_cut : length s < at + PAIR_SIZE → refused 13 at ≡ node_at s at
      unfolding width_of
      pair_cut l = node_cut 16 (rw b) l

      pub pair_whole : at + PAIR_SIZE ≤ length s → accepted (record { value = leaf (Condition (pair_at s at)); next = at + PAIR_SIZE }) ≡ node_at s at
      unfolding width_of operands_of
      pair_whole l = node_whole 16 (rw b) l (accepted (leaf (Condition (pair_at s at)))) (rw b)

    module _ (b : get_or s at 0 ≡ JOB_LEAF) where
      pub action_cut : length s < at + JOB_LEAF_SIZE → refused 13 at ≡ node_at s at
      unfolding width_of
      action_cut l = node_cut 1 (rw b) l

      pub action_whole : at + JOB_LEAF_SIZE ≤ length s
          → accepted (record { value = leaf (Action (get_or s (at + OPERANDS_AT) 0)); next = at + JOB_LEAF_SIZE }) ≡ node_at s at
      unfolding width_of operands_of
      action_whole l = node_whole 1 (rw b) l (accepted (leaf (Action (get_or s (at + OPERANDS_AT) 0)))) (rw b)

    module _ (b : get_or s at 0 ≡ WAITING) where
      pub wait_whole : accepted (record { value = leaf Wait; next = at + WAITING_SIZE }) ≡ node_at s at
      unfolding width_of operands_of
      wait_whole = node_whole 0 (rw b) (omega arith) (accepted (leaf Wait)) (rw b)

    -- a node with children; FALLBACK and SEQUENCE take as many bytes
    module _ (kind : Kind) (b : get_or s at 0 ≡ kind_byte kind) where
      branch_width : width_of (get_or s at 0) ≡ Some count_width
      unfolding width_of
      branch_width = rw b (by_kind kind)
        where
          by_kind : (k : Kind) → width_of (kind_byte k) ≡ Some count_width
          by_kind Fallback = refl
          by_kind Sequence = refl

      branch_operands : operands_of s at (get_or s at 0) ≡ child_count kind at (count_at s at)
      unfolding operands_of
      branch_operands = rw b (by_kind kind)
        where
          by_kind : (k : Kind) → operands_of s at (kind_byte k) ≡ child_count k at (count_at s at)
          by_kind Fallback = refl
          by_kind Sequence = refl

      pub branch_cut : length s < at + FALLBACK_SIZE → refused 13 at ≡ node_at s at
      branch_cut l = node_cut count_width branch_width l

      module _ (l : at + FALLBACK_SIZE ≤ length s) where
        branch_whole : (n : Checked Node) → child_count kind at (count_at s at) ≡ n
            → (and_then n λ v. accepted (record { value = v; next = at + FALLBACK_SIZE })) ≡ node_at s at
        branch_whole n e = node_whole count_width branch_width l n (branch_operands ∙ e)

        pub branch_none : count_at s at ≡ 0 → refused 13 at ≡ node_at s at
        branch_none e = branch_whole (refused 13 at) (rw e)

        module _ (some : count_at s at ≡ 0 → ⊥) where
          more_than_none : leb 1 (count_at s at) ≡ true
          more_than_none = le-leb 1 (count_at s at) (omega (arith, some))

          pub branch_many : max_children < count_at s at → refused 13 at ≡ node_at s at
          branch_many m = branch_whole (refused 13 at) (rw (more_than_none, lt-leb (count_at s at) max_children m))

          pub branch_counted : count_at s at ≤ max_children → accepted (record { value = branch kind (count_at s at); next = at + FALLBACK_SIZE }) ≡ node_at s at
          branch_counted m = branch_whole (accepted (branch kind (count_at s at))) (rw (more_than_none, le-leb (count_at s at) max_children m))

    -- another command, or none
    pub node_other : (get_or s at 0 ≡ FALLBACK → ⊥) → (get_or s at 0 ≡ SEQUENCE → ⊥) → (get_or s at 0 ≡ CONDITION → ⊥) → (get_or s at 0 ≡ JOB_LEAF → ⊥)
        → (get_or s at 0 ≡ PAIR → ⊥) → (get_or s at 0 ≡ WAITING → ⊥) → refused 13 at ≡ node_at s at
    unfolding node_at whole_at operands_of
    node_other f q c j p w = by_width (width_of (get_or s at 0)) refl
      where
        none : operands_of s at (get_or s at 0) ≡ refused 13 at
        none = rw (ne_eqb _ _ f, ne_eqb _ _ q, ne_eqb _ _ c, ne_eqb _ _ j, ne_eqb _ _ p, ne_eqb _ _ w)

        by_width : (w : (Option ℕ)) → width_of (get_or s at 0) ≡ w → refused 13 at ≡ node_at s at
        by_width None e = rw (at_unknown s at h e)
        by_width (Some w) e = elim (dec_le (at + (1 + w)) (length s)) [
          | yes l ↦ node_whole w e l (refused 13 at) none
          | no l ↦ node_cut w e (omega arith)
        ]

  -- ---- what an accepted node tells

  -- its bytes are all there, and it has at least one
  pub node_onward : (n : Past Node) → accepted n ≡ node_at s at → (at < n.next) × (n.next ≤ length s)
  unfolding node_at whole_at
  node_onward n e =
      let (c, whole, operands) = accepted_then (whole_at s at) _ n (sym e) in
      let (v, found, same) = accepted_then (operands_of s at c.value) (λ v. accepted (record { value = v; next = c.next })) n operands in
      let w = by_command (command_at s at) refl c whole in
      let next : c.next ≡ n.next = ap (λ (p : Past Node). p.next) (accepted_same same) in (
        omega (arith, w.is_next),
        omega (arith, w.inside),
      )
    where
      by_command : (f : Found) → command_at s at ≡ f → (c : Past ℕ) → whole_in s at f ≡ accepted c → WholeAt s at c.value c.next
      by_command Missing e c q = absurd (not_both q)
      by_command Unknown e c q = absurd (not_both q)
      by_command (Cut byte) e c q = absurd (not_both q)
      by_command (Whole byte next) e c q = subst (λ (p : Past ℕ). WholeAt s at p.value p.next) (accepted_same q) (whole_told s at byte next e)

  -- a node with children has at least one
  pub branch_some : (kind : Kind) (count next : ℕ) → accepted (record { value = branch kind count; next = next }) ≡ node_at s at → 1 ≤ count
  unfolding node_at operands_of
  branch_some kind count next e =
      let (c, whole, operands) = accepted_then (whole_at s at) _ _ (sym e) in
      let (v, found, same) = accepted_then (operands_of s at c.value) (λ v. accepted (record { value = v; next = c.next })) _ operands in
      let is : v ≡ branch kind count = ap (λ (p : Past Node). p.value) (accepted_same same) in
      by_tests (eqb c.value FALLBACK) (eqb c.value SEQUENCE) (eqb c.value CONDITION) (eqb c.value JOB_LEAF) (eqb c.value PAIR) (eqb c.value WAITING) (rw is at found)
    where
      counted : (k : Kind) → child_count k at (count_at s at) ≡ accepted (branch kind count) → 1 ≤ count
      counted k q =
          let (t, p) = accepted_if (leb 1 (count_at s at) && leb (count_at s at) max_children) (accepted (branch k (count_at s at))) 13 at (branch kind count) q in
          let n : count_at s at ≡ count = cc in
          rw n at (by_bound (leb 1 (count_at s at)) refl t)
        where
          by_bound : (b : Bool) → leb 1 (count_at s at) ≡ b → (b && leb (count_at s at) max_children) ≡ true → 1 ≤ count_at s at
          by_bound true e q = leb-true 1 (count_at s at) e
          by_bound false e q = let z : ◌≡◌ {A = ℕ} 0 1 = cc in absurd (omega arith)

      by_tests : (f q c j p w : Bool)
          → (if f then child_count Fallback at (count_at s at)
          else if q then child_count Sequence at (count_at s at)
          else if c then accepted (leaf (Condition (plain (mask_at s at))))
          else if j then accepted (leaf (Action (get_or s (at + OPERANDS_AT) 0)))
          else if p then accepted (leaf (Condition (pair_at s at)))
          else if w then accepted (leaf Wait)
          else refused 13 at) ≡ accepted (branch kind count) → 1 ≤ count
      by_tests true q c j p w e = counted Fallback e
      by_tests false true c j p w e = counted Sequence e
      by_tests false false true j p w e = let z : ◌≡◌ {A = ℕ} 0 1 = cc in absurd (omega arith)
      by_tests false false false true p w e = let z : ◌≡◌ {A = ℕ} 0 1 = cc in absurd (omega arith)
      by_tests false false false false true w e = let z : ◌≡◌ {A = ℕ} 0 1 = cc in absurd (omega arith)
      by_tests false false false false false true e = let z : ◌≡◌ {A = ℕ} 0 1 = cc in absurd (omega arith)
      by_tests false false false false false false e = absurd (not_both e)

-- ---- every accepted node ends past its offset

module _ (child : ℕ → Checked (Past Tree)) (onward : (at : ℕ) (t : Past Tree) → child at ≡ accepted t → at < t.next) where
  row_onward : (n at : ℕ) (row : Past Row) → read_row child n at ≡ accepted row → at < row.next
  unfolding read_row
  row_onward zero at row e =
      let (t, first, same) = accepted_then (child at) (λ t. accepted (record { value = one t.value; next = t.next })) row e in
      let next : t.next ≡ row.next = ap (λ (p : Past Row). p.next) (accepted_same same) in
      omega (arith, onward at t first)
  row_onward (suc n) at row e =
      let (t, first, others) = accepted_then (child at) _ row e in
      let (rest, read, same) = accepted_then (read_row child n t.next) (λ rest. accepted (record { value = more t.value rest.value; next = rest.next })) row others in
      let next : rest.next ≡ row.next = ap (λ (p : Past Row). p.next) (accepted_same same) in
      omega (arith, onward at t first, row_onward n t.next rest read)

module _ (s : List ℕ) (facts jobs : ℕ) where
  pub read_onward : (levels at : ℕ) (t : Past Tree) → read_node s facts jobs levels at ≡ accepted t → at < t.next
  unfolding read_node
  read_onward zero at t e = let (n, here, deep) = accepted_then (node_at s at) _ t e in absurd (not_both deep)
  read_onward (suc levels) at t e =
      let (n, here, rest) = accepted_then (node_at s at) (λ n. read_operands (read_node s facts jobs levels) facts jobs at n.next n.value) t e in
      by_node n.value n.next (node_onward s at n (sym here)).0 (read_onward levels) rest
    where
      by_node : (n : Node) (next : ℕ) → at < next → ((at : ℕ) (t : Past Tree) → read_node s facts jobs levels at ≡ accepted t → at < t.next)
          → read_operands (read_node s facts jobs levels) facts jobs at next n ≡ accepted t → at < t.next
      by_node (branch kind k) next h below q =
          let (row, read, same) = accepted_then (read_row (read_node s facts jobs levels) (k - 1) next) (λ row. accepted (record { value = node kind row.value; next = row.next })) t q in
          let past : row.next ≡ t.next = ap (λ (p : Past Tree). p.next) (accepted_same same) in
          omega (arith, row_onward (read_node s facts jobs levels) below (k - 1) next row read)
      by_node (leaf x) next h below q =
          let (fits, same) = accepted_if (in_range facts jobs x) (accepted (record { value = Tree.leaf x at; next = next })) 15 at t q in
          let past : next ≡ t.next = ap (λ (p : Past Tree). p.next) (accepted_same same) in
          omega arith

-- ---- END

module _ (s : List ℕ) (t : Tree) (at : ℕ) where
  ended : (c : Found) (r : Checked Tree) → command_at s at ≡ c
      → r ≡ (and_then (whole_in s at c) λ c.
      if eqb c.value END_OF_TREE then (if eqb c.next (length s) then accepted t else refused 13 c.next) else refused 13 at)
      → r ≡ read_end s t at
  unfolding read_end whole_at
  ended c r e q = rw e q

  pub end_missing : command_at s at ≡ Missing → refused 13 (length s) ≡ read_end s t at
  end_missing e = ended Missing _ e refl

  pub end_unknown : command_at s at ≡ Unknown → refused 13 at ≡ read_end s t at
  end_unknown e = ended Unknown _ e refl

  pub end_cut : (byte : ℕ) → command_at s at ≡ Cut byte → refused 13 at ≡ read_end s t at
  end_cut byte e = ended (Cut byte) _ e refl

  module _ (byte next : ℕ) (e : command_at s at ≡ Whole byte next) where
    pub end_other : (byte ≡ END_OF_TREE → ⊥) → refused 13 at ≡ read_end s t at
    end_other b = ended (Whole byte next) _ e (rw (ne_eqb _ _ b))

    module _ (b : byte ≡ END_OF_TREE) where
      pub end_more : (next ≡ length s → ⊥) → refused 13 next ≡ read_end s t at
      end_more l = ended (Whole byte next) _ e (rw (eq-eqb _ _ b, ne_eqb _ _ l))

      pub end_whole : next ≡ length s → accepted t ≡ read_end s t at
      end_whole l = ended (Whole byte next) _ e (rw (eq-eqb _ _ b, eq-eqb _ _ l))
