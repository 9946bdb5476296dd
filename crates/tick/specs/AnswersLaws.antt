-- The entry points' definitions, way by way, and that they keep their promise. Equations are turned so that a function's answers chain with them.
-- Assumes nothing.
use Rattle.std.specs.Prelude.{ℕ, ◌≤◌, ◌<◌, ◌≡◌, Bool, true, List, length, Result}
use Rattle.std.proofs.Math.Path.{refl}
use Rattle.std.proofs.Common.{sym, ap, ◌∙◌, le-leb}
use Rattle.std.proofs.lemmas.Bool.{lt-leb}
use Rattle.refusal.specs.declared.Refusal.{Refusal}
use Rattle.refusal.specs.Checked.{Checked, accepted, refused, and_then, answer_of}
use Rattle.refusal.specs.CheckedLaws.{not_both, accepted_same}
use Rattle.commands.specs.Commands.{Past}
use Rattle.reading.specs.declared.Reading.{Reading}
use Rattle.reading.specs.Reading.{checked_at, Completes, state}
use Rattle.table.specs.declared.Header.{Header}
use Rattle.table.specs.Read.{read_table, headed}
use Rattle.tree.specs.declared.Status.{Status}
use Rattle.tree.specs.Tree.{Tree}
use Rattle.tree.specs.ReadTree.{max_tree_bytes, max_depth, read_node, read_end, read_tree}
use Rattle.tree.specs.Tick.{Verdict, tick_by, tick_tree}
use Rattle.tree.specs.TickBytes.{tick_checked, tick_bytes, answered, is_settled, SettledBy}
use Rattle.tree.specs.TickBytesLaws.{settled_checked, settled_bytes, bytes_checked, bytes_refused}
use Rattle.tick_walk.specs.Walk.{walked}
use Rattle.tick.specs.Answers.{answered_by, AnswersBy, Answers, AnswersUnder}

-- ---- a tree

module _ (s : List ℕ) (facts jobs : ℕ) (f : Tree → Status) where
  pub tree_long : max_tree_bytes < length s → refused 13 0 ≡ answered_by f (read_tree s facts jobs)
  unfolding read_tree
  tree_long h = rw (lt-leb (length s) max_tree_bytes h)

  module _ (h : length s ≤ max_tree_bytes) where
    tree_short : (x : Checked (Past Tree)) → read_node s facts jobs max_depth 0 ≡ x
        → answered_by f (and_then x λ root. read_end s root.value root.next) ≡ answered_by f (read_tree s facts jobs)
    unfolding read_tree
    tree_short x e = rw (le-leb (length s) max_tree_bytes h, e)

    module _ (rows : List (List Bool)) (r : Reading) where
      pub tree_refused : (n p : ℕ) → refused n p ≡ walked rows r true (read_node s facts jobs max_depth 0) → refused n p ≡ answered_by f (read_tree s facts jobs)
      tree_refused n p q = by_root (read_node s facts jobs max_depth 0) refl q
        where
          by_root : (x : Checked (Past Tree)) → read_node s facts jobs max_depth 0 ≡ x → refused n p ≡ walked rows r true x → refused n p ≡ answered_by f (read_tree s facts jobs)
          by_root (accepted t) e q = absurd (not_both q)
          by_root (refused j k) e q =
              let a : n ≡ j = cc in
              let b : p ≡ k = cc in
              rw (a, b) (tree_short (refused j k) e)

      -- the root was read and answered a, and the rest of the bytes is END's
      pub tree_read : (a : Status) (next : ℕ) (c : Checked Status) → accepted (record { value = a; next = next }) ≡ walked rows r true (read_node s facts jobs max_depth 0)
          → ((t : Tree) → (tick_by rows r t).answer ≡ a → c ≡ answered_by f (read_end s t next)) → c ≡ answered_by f (read_tree s facts jobs)
      tree_read a next c q k = by_root (read_node s facts jobs max_depth 0) refl q
        where
          by_root : (x : Checked (Past Tree)) → read_node s facts jobs max_depth 0 ≡ x → accepted (record { value = a; next = next }) ≡ walked rows r true x
              → c ≡ answered_by f (read_tree s facts jobs)
          by_root (accepted t) e q =
              let ea : (tick_by rows r t.value).answer ≡ a = sym (ap (λ (p : Past Status). p.value) (accepted_same q)) in
              let en : next ≡ t.next = ap (λ (p : Past Status). p.next) (accepted_same q) in
              k t.value ea ∙ rw en (tree_short (accepted t) e)
          by_root (refused j k) e q = absurd (not_both (sym q))

-- ---- the reading, then the tree

module _ (facts jobs : ℕ) (tree : List ℕ) (place : ℕ) (r : Reading) where
  pub tick_refused : (n p : ℕ) → refused n p ≡ checked_at facts place r → refused n p ≡ answered (tick_checked facts jobs tree place r)
  unfolding tick_checked
  tick_refused n p e = rw (← e)

  pub tick_passed : (s : Reading) → accepted s ≡ checked_at facts place r
      → answered_by (λ t. (tick_tree s t).answer) (read_tree tree facts jobs) ≡ answered (tick_checked facts jobs tree place r)
  unfolding tick_checked
  tick_passed s e = rw (← e) (by_tree (read_tree tree facts jobs))
    where
      by_tree : (x : Checked Tree) → answered_by (λ t. (tick_tree s t).answer) x ≡ answered (and_then x λ t. accepted (tick_tree s t))
      by_tree (accepted t) = refl
      by_tree (refused n p) = refl

-- ---- an answer of the definition's is settled where it says so

module _ (tick : Reading → Checked Verdict) (r : Reading)
    (stands : (v : Verdict) → tick r ≡ accepted v → is_settled v.answer ≡ true → (s : ℕ) → Completes r s → tick (state s) ≡ accepted v) where
  answers_by : (ticked : Result Status Refusal) → answer_of ticked ≡ answered (tick r) → AnswersBy tick r ticked
  answers_by ticked e = record { answer = e; settled = λ a f h. by_verdict (tick r) refl a (sym f ∙ e) h }
    where
      by_verdict : (x : Checked Verdict) → tick r ≡ x → (a : Status) → accepted a ≡ answered x → is_settled a ≡ true → SettledBy tick r a
      by_verdict (accepted v) e a q h =
          let same : a ≡ v.answer = cc in
          rw same (record { leaf = v.leaf; here = e; everywhere = stands v e (rw same at h) })
      by_verdict (refused n p) e a q h = absurd (not_both (sym q))

module _ (tree : List ℕ) (r : Reading) (ticked : Result Status Refusal) where
  pub answers_under : (h : Header) (place : ℕ) → answer_of ticked ≡ answered (tick_checked h.facts h.jobs tree place r) → AnswersUnder h tree place r ticked
  answers_under h place e = answers_by (tick_checked h.facts h.jobs tree place) r (settled_checked h.facts h.jobs tree place r) ticked e

  module _ (table : List ℕ) where
    pub answers_refused : (n p : ℕ) → refused n p ≡ headed (read_table table) → answer_of ticked ≡ refused n p → Answers table tree r ticked
    answers_refused n p q e =
        answers_by (tick_bytes table tree) r (settled_bytes table tree r) ticked (e ∙ ap answered (bytes_refused table tree n p q r))

    -- what holds under a table that was read holds from its bytes
    pub answers_read : (h : Header) → accepted h ≡ headed (read_table table) → AnswersUnder h tree 0 r ticked → Answers table tree r ticked
    answers_read h q a =
        answers_by (tick_bytes table tree) r (settled_bytes table tree r) ticked (a.answer ∙ ap answered (bytes_checked table tree h q r))
