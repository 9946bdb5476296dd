-- The tick of a list's tree is that of its entries, one after the other, and what it promises: document 01, "Ticking" and "Work on a vehicle";
-- document 02, W12.
-- Assumes nothing.
use Prim.Native.Nat.{ℕ, zero, suc, ◌≤◌, ◌<◌}
use Rattle.std.proofs.Math.Nat.{not-suc-le-zero}
use Rattle.std.proofs.Common.{arith, ◌∙◌, inl, inr, ⊎_elim, T_not}
use Rattle.std.specs.Prelude.{◌≡◌, Bool, not, ◌⊎◌, ◌↔◌, T}
use Rattle.std.proofs.Math.Path.{refl, sym, ap}
use Rattle.std.proofs.Math.Bool.{true, false}
use mathlib.Core.List.{List, [], ◌∷◌}
use Rattle.std.proofs.Math.ListN.{length}
use Rattle.base.specs.Bools.{holds, fails}
use Rattle.masks.specs.Sets.{intersects}
use Rattle.reading.specs.declared.Reading.{Reading}
use Rattle.reading.specs.Reading.{Completes, state}
use Rattle.conditions.specs.declared.Evaluation.{Evaluation}
use Rattle.conditions.specs.declared.Evaluation.TheVariants.{Met, Missed, Open}
use Rattle.conditions.specs.declared.Condition.{Condition}
use Rattle.conditions.specs.Condition.{satisfied}
use Rattle.conditions.specs.OnReading.{evaluated}
use Rattle.conditions.specs.OnReadingLaws.{evaluated_state, missed_everywhere, open_met, open_missed, met_confirmed}
use Rattle.planning.specs.Domain.{Domain}
use Rattle.planning.specs.Expansion.{Entry}
use Rattle.planning.specs.Demand.{tick_later, tick_list}
use Rattle.tree.specs.declared.Kind.TheVariants.{Fallback}
use Rattle.tree.specs.declared.Status.{Status}
use Rattle.tree.specs.declared.Status.TheVariants.{Success, Failure, Running, Unsettled, Waiting}
use Rattle.tree.specs.Tree.{Tree}
use Rattle.tree.specs.Tick.{leaf_answer, goes_on, continue_table, Verdict, tick_by, tick_row, tick_tree}
use Rattle.runs.specs.Runs.{answer_of_status}
use Rattle.flat.specs.TreeBytes.{condition_bytes, everyone, condition_at, action_at, past_entry, root_condition_at}
use Rattle.flat.specs.TreeBytesLaws.{condition_size_is, leaf_most, first_parts, entry_parts}
use Rattle.flat.specs.FlatTree.{leaf_of, later_tree, row_from, root_tree, later_at, tree_of}
use Rattle.flat.specs.FlatTick.{verdict, leaf_status, later_verdict, list_verdict, seen_by, Consistent, Named, NoneMet}

-- statuses of two kinds differ

kind_of : Status → ℕ
kind_of Success = 0
kind_of Failure = 1
kind_of (Unsettled mask) = 2
kind_of (Running job) = 3
kind_of Waiting = 4

absurd_status : {P : Type 0} {a b : Status} → a ≡ b → (kind_of a ≡ kind_of b → ⊥) → P
absurd_status e n = absurd (n (ap kind_of e))

-- an action's leaf decides
leaf_kind : (own : Bool) (action : ℕ) → 3 ≤ kind_of (leaf_status own action)
unfolding kind_of
leaf_kind true action = omega arith
leaf_kind false action = omega arith

-- and names the action only to the one whose it is
leaf_named : (own : Bool) (action job : ℕ) → leaf_status own action ≡ Running job → action ≡ job
unfolding kind_of
leaf_named true action job e = cc
leaf_named false action job e = absurd_status e (λ z. omega arith)

answers : {v w : Verdict} → v ≡ w → v.answer ≡ w.answer
answers e = ap (λ (v : Verdict). v.answer) e

-- ---- where leaves stand

-- an entry's action stands in the entry, past its condition
action_inside : (mine : ℕ → Bool) (paired : Bool) (x : Entry Condition) (at : ℕ) → action_at paired x at < past_entry mine paired x at
action_inside mine paired x at = omega (arith, entry_parts paired x.condition (mine x.action) x.action, leaf_most (mine x.action) x.action)

root_inside : (paired : Bool) (n : ℕ) (x : Entry Condition) → root_condition_at n < later_at paired n x
root_inside paired n x = omega (arith, first_parts paired n x.condition, some paired)
  where
    some : (paired : Bool) → 0 < length (condition_bytes paired x.condition)
    some false = omega (arith, condition_size_is false x.condition)
    some true = omega (arith, condition_size_is true x.condition)

-- ---- the tick of the tree, entry by entry

-- a leaf's answer is that of its action
leaf_answer_is : (r : Reading) (own : Bool) (action : ℕ) → leaf_answer r (leaf_of own action) ≡ leaf_status own action
leaf_answer_is r true action = refl
leaf_answer_is r false action = refl

leaf_stops : (own : Bool) (action : ℕ) → goes_on continue_table Fallback (leaf_status own action) ≡ false
leaf_stops true action = refl
leaf_stops false action = refl

module _ (mine : ℕ → Bool) (paired : Bool) (r : Reading) where
  -- an entry after the first, by what the reading says of its condition
  entry_met : (x : Entry Condition) (at : ℕ) → evaluated r x.condition ≡ Met
      → tick_tree r (later_tree mine paired x at) ≡ verdict (leaf_status (mine x.action) x.action) (action_at paired x at)
  unfolding tick_by
  entry_met x at e = rw (e, leaf_answer_is r (mine x.action) x.action)

  entry_missed : (x : Entry Condition) (at : ℕ) → evaluated r x.condition ≡ Missed
      → tick_tree r (later_tree mine paired x at) ≡ verdict Failure (condition_at at)
  unfolding tick_by
  entry_missed x at e = rw e

  entry_open : (x : Entry Condition) (at m : ℕ) → evaluated r x.condition ≡ Open m
      → tick_tree r (later_tree mine paired x at) ≡ verdict (Unsettled m) (condition_at at)
  unfolding tick_by
  entry_open x at m e = rw e

  -- a child that does not fail decides
  row_decided : (l : List (Entry Condition)) (t : Tree) (at : ℕ) → goes_on continue_table Fallback (tick_tree r t).answer ≡ false
      → tick_row continue_table r (row_from mine paired t l at) Fallback ≡ tick_tree r t
  unfolding tick_by row_from
  row_decided [] t at e = refl
  row_decided (x ∷ l) t at e = rw e

  -- after one that fails, the entries are ticked
  row_ticked : (l : List (Entry Condition)) (t : Tree) (at leaf : ℕ) → tick_tree r t ≡ verdict Failure leaf
      → tick_row continue_table r (row_from mine paired t l at) Fallback ≡ later_verdict mine paired r leaf l at
  unfolding tick_by row_from later_verdict
  row_ticked [] t at leaf e = e
  row_ticked (x ∷ l) t at leaf e = rw e (by_condition (evaluated r x.condition) refl (row_ticked l (later_tree mine paired x at) (past_entry mine paired x at)))
    where
      by_condition : (v : Evaluation) → evaluated r x.condition ≡ v
          → ((leaf : ℕ) → tick_tree r (later_tree mine paired x at) ≡ verdict Failure leaf
          → tick_row continue_table r (row_from mine paired (later_tree mine paired x at) l (past_entry mine paired x at)) Fallback
          ≡ later_verdict mine paired r leaf l (past_entry mine paired x at))
          → tick_row continue_table r (row_from mine paired (later_tree mine paired x at) l (past_entry mine paired x at)) Fallback ≡ later_verdict mine paired r leaf (x ∷ l) at
      by_condition Met f rest =
          let e = entry_met x at f in
          rw (f, later_verdict) (row_decided l (later_tree mine paired x at) (past_entry mine paired x at) (rw e (leaf_stops (mine x.action) x.action)) ∙ e)
      by_condition Missed f rest = rw (f, later_verdict) (rest (condition_at at) (entry_missed x at f))
      by_condition (Open m) f rest =
          let e = entry_open x at m f in
          rw (f, later_verdict) (row_decided l (later_tree mine paired x at) (past_entry mine paired x at) (rw e) ∙ e)

  pub tree_ticked : (x : Entry Condition) (l : List (Entry Condition)) → tick_tree r (tree_of mine paired (x ∷ l)) ≡ list_verdict mine paired r x l
  unfolding tick_by tree_of list_verdict
  tree_ticked x l = by_condition (evaluated r x.condition) refl
    where
      n : ℕ
      n = length (x ∷ l)

      by_condition : (v : Evaluation) → evaluated r x.condition ≡ v
          → tick_row continue_table r (row_from mine paired (root_tree n x) l (later_at paired n x)) Fallback ≡ list_verdict mine paired r x l
      by_condition Met f = rw (f, list_verdict) (row_decided l (root_tree n x) (later_at paired n x) (rw f) ∙ rw f)
      by_condition Missed f = rw (f, list_verdict) (row_ticked l (root_tree n x) (later_at paired n x) (root_condition_at n) (rw f))
      by_condition (Open m) f = rw (f, list_verdict) (row_decided l (root_tree n x) (later_at paired n x) (rw f) ∙ rw f)

-- ---- the verdict, way by way

module _ (mine : ℕ → Bool) (paired : Bool) (r : Reading) (x : Entry Condition) (l : List (Entry Condition)) where
  module _ (before at : ℕ) where
    later_met : evaluated r x.condition ≡ Met → later_verdict mine paired r before (x ∷ l) at ≡ verdict (leaf_status (mine x.action) x.action) (action_at paired x at)
    unfolding later_verdict
    later_met e = rw (e, later_verdict)

    later_missed : evaluated r x.condition ≡ Missed
        → later_verdict mine paired r before (x ∷ l) at ≡ later_verdict mine paired r (condition_at at) l (past_entry mine paired x at)
    unfolding later_verdict
    later_missed e = rw (e, later_verdict)

    later_open : (m : ℕ) → evaluated r x.condition ≡ Open m → later_verdict mine paired r before (x ∷ l) at ≡ verdict (Unsettled m) (condition_at at)
    unfolding later_verdict
    later_open m e = rw (e, later_verdict)

  abbrev n : ℕ
  n = length (x ∷ l)

  list_met : evaluated r x.condition ≡ Met → tick_tree r (tree_of mine paired (x ∷ l)) ≡ verdict Success (root_condition_at n)
  unfolding list_verdict
  list_met e = tree_ticked mine paired r x l ∙ rw (e, list_verdict)

  list_missed : evaluated r x.condition ≡ Missed
      → tick_tree r (tree_of mine paired (x ∷ l)) ≡ later_verdict mine paired r (root_condition_at n) l (later_at paired n x)
  unfolding list_verdict
  list_missed e = tree_ticked mine paired r x l ∙ rw (e, list_verdict)

  list_open : (m : ℕ) → evaluated r x.condition ≡ Open m → tick_tree r (tree_of mine paired (x ∷ l)) ≡ verdict (Unsettled m) (root_condition_at n)
  unfolding list_verdict
  list_open m e = tree_ticked mine paired r x l ∙ rw (e, list_verdict)

-- ---- on a state the tree answers as the list does

module _ (s : ℕ) where
  state_met : (c : Condition) → satisfied c s ≡ true → evaluated (state s) c ≡ Met
  state_met c e = evaluated_state s c ∙ rw e

  state_missed : (c : Condition) → satisfied c s ≡ false → evaluated (state s) c ≡ Missed
  state_missed c e = evaluated_state s c ∙ rw e

module _ (paired : Bool) (D : Domain ℕ Condition ℕ) (meets : (s : ℕ) (c : Condition) → D.satisfies s c ≡ satisfied c s) (s : ℕ) where
  later_agrees : (l : List (Entry Condition)) (before at : ℕ) → answer_of_status (later_verdict everyone paired (state s) before l at).answer ≡ tick_later D l s
  unfolding later_verdict tick_later
  later_agrees [] before at = refl
  later_agrees (x ∷ l) before at = by_met (satisfied x.condition s) refl (later_agrees l)
    where
      by_met : (b : Bool) → satisfied x.condition s ≡ b
          → ((before at : ℕ) → answer_of_status (later_verdict everyone paired (state s) before l at).answer ≡ tick_later D l s)
          → answer_of_status (later_verdict everyone paired (state s) before (x ∷ l) at).answer ≡ tick_later D (x ∷ l) s
      by_met true e rest =
          ap answer_of_status (answers (later_met everyone paired (state s) x l before at (state_met s x.condition e)))
          ∙ rw (meets s x.condition, e, tick_later)
      by_met false e rest =
          ap answer_of_status (answers (later_missed everyone paired (state s) x l before at (state_missed s x.condition e)))
          ∙ rw (meets s x.condition, e, tick_later) (rest (condition_at at) (past_entry everyone paired x at))

  -- Promise: where nothing is unread, a tick of the tree answers as the list does.
  pub tick_agrees : (x : Entry Condition) (l : List (Entry Condition))
      → answer_of_status (tick_tree (state s) (tree_of everyone paired (x ∷ l))).answer ≡ tick_list D (x ∷ l) s
  unfolding tick_list
  tick_agrees x l = by_met (satisfied x.condition s) refl
    where
      by_met : (b : Bool) → satisfied x.condition s ≡ b → answer_of_status (tick_tree (state s) (tree_of everyone paired (x ∷ l))).answer ≡ tick_list D (x ∷ l) s
      by_met true e =
          ap answer_of_status (answers (list_met everyone paired (state s) x l (state_met s x.condition e))) ∙ rw (meets s x.condition, e, tick_list)
      by_met false e =
          ap answer_of_status (answers (list_missed everyone paired (state s) x l (state_missed s x.condition e)))
          ∙ rw (meets s x.condition, e, tick_list) (later_agrees l _ _)

-- ---- Unsettled: two ways of filling in the unread facts differ in the answer or in its leaf

-- the entries from an offset on fail, or a leaf from there on decides
beyond : (mine : ℕ → Bool) (paired : Bool) (r : Reading) (l : List (Entry Condition)) (before at : ℕ)
    → ((later_verdict mine paired r before l at).answer ≡ Failure) ⊎ (at ≤ (later_verdict mine paired r before l at).leaf)
unfolding later_verdict
beyond mine paired r [] before at = inl refl
beyond mine paired r (x ∷ l) before at = by_condition (evaluated r x.condition) refl (beyond mine paired r l)
  where
    far : (k : ℕ) → past_entry mine paired x at ≤ k → at ≤ k
    far k h = omega arith

    by_condition : (v : Evaluation) → evaluated r x.condition ≡ v
        → ((before at : ℕ) → ((later_verdict mine paired r before l at).answer ≡ Failure) ⊎ (at ≤ (later_verdict mine paired r before l at).leaf))
        → ((later_verdict mine paired r before (x ∷ l) at).answer ≡ Failure) ⊎ (at ≤ (later_verdict mine paired r before (x ∷ l) at).leaf)
    by_condition Met e rest = inr (rw (later_met mine paired r x l before at e) (omega arith))
    by_condition Missed e rest =
        rw (later_missed mine paired r x l before at e) (⊎_elim inl (λ h. inr (far _ h)) (rest (condition_at at) (past_entry mine paired x at)))
    by_condition (Open m) e rest = inr (rw (later_open mine paired r x l before at m e) (omega arith))

-- so they differ from an answer that is no Failure, of a leaf before them
differ_beyond : (mine : ℕ → Bool) (paired : Bool) (a : Status) (k : ℕ) (r : Reading) (l : List (Entry Condition)) (before at : ℕ) → (a ≡ Failure → ⊥) → k < at
    → verdict a k ≡ later_verdict mine paired r before l at → ⊥
differ_beyond mine paired a k r l before at n h e =
    ⊎_elim (λ f. n (answers e ∙ f)) (λ g. let z : k ≡ _ = ap (λ (v : Verdict). v.leaf) e in omega arith) (beyond mine paired r l before at)

module _ (mine : ℕ → Bool) (paired : Bool) (r : Reading) (apart : T (not (intersects r.held r.unread))) where
  -- two ways of filling in the unread facts, on which a tick differs
  abbrev Differs : (Reading → Verdict) → Type 0
  Differs tick = (s u : ℕ) × Completes r s × Completes r u × (tick (state s) ≡ tick (state u) → ⊥)

  later_differ : (l : List (Entry Condition)) (before at m : ℕ) → Consistent l → (later_verdict mine paired r before l at).answer ≡ Unsettled m
      → Differs (λ r. later_verdict mine paired r before l at)
  unfolding later_verdict kind_of
  later_differ [] before at m one_way e = absurd_status e (λ z. omega arith)
  later_differ (x ∷ l) before at m one_way e = by_condition (evaluated r x.condition) refl (later_differ l)
    where
      by_condition : (v : Evaluation) → evaluated r x.condition ≡ v
          → ((before at m : ℕ) → Consistent l → (later_verdict mine paired r before l at).answer ≡ Unsettled m
          → Differs (λ r. later_verdict mine paired r before l at))
          → Differs (λ r. later_verdict mine paired r before (x ∷ l) at)
      by_condition Met f rest = absurd_status (sym (answers (later_met mine paired r x l before at f)) ∙ e) (λ z. omega (arith, leaf_kind (mine x.action) x.action))
      -- the entry is missed however the unread facts turn out
      by_condition Missed f rest =
          let further = sym (answers (later_missed mine paired r x l before at f)) ∙ e in
          let (s, u, fills, fills', differ) = rest (condition_at at) (past_entry mine paired x at) m one_way.1 further in (
            s,
            u,
            fills,
            fills',
            λ same. differ (sym (later_missed mine paired (state s) x l before at (missed_everywhere r s fills x.condition f)) ∙ same
                ∙ later_missed mine paired (state u) x l before at (missed_everywhere r u fills' x.condition f)),
          )
      -- the entry is met in one way, and missed in another
      by_condition (Open n) f rest =
          let (s, fills, met) = open_met r x.condition n f one_way.0 in
          let (u, fills', missed) = open_missed r x.condition n f apart in (
            s,
            u,
            fills,
            fills',
            λ same. differ_beyond mine paired (leaf_status (mine x.action) x.action) (action_at paired x at) (state u) l (condition_at at) (past_entry mine paired x at)
                (λ q. absurd_status q (λ z. omega (arith, leaf_kind (mine x.action) x.action))) (action_inside mine paired x at)
                (sym (later_met mine paired (state s) x l before at met) ∙ same ∙ later_missed mine paired (state u) x l before at missed),
          )

  -- Promise: where the tree of a list is unsettled, two ways of filling in the unread facts differ in the answer, or in the leaf that decides.
  pub unsettled_differ : (x : Entry Condition) (l : List (Entry Condition)) (m : ℕ) → Consistent (x ∷ l)
      → (tick_tree r (tree_of mine paired (x ∷ l))).answer ≡ Unsettled m → Differs (λ r. tick_tree r (tree_of mine paired (x ∷ l)))
  unfolding kind_of
  unsettled_differ x l m one_way e = by_condition (evaluated r x.condition) refl
    where
      by_condition : (v : Evaluation) → evaluated r x.condition ≡ v → Differs (λ r. tick_tree r (tree_of mine paired (x ∷ l)))
      by_condition Met f = absurd_status (sym (answers (list_met mine paired r x l f)) ∙ e) (λ z. omega arith)
      by_condition Missed f =
          let (s, u, fills, fills', differ) = later_differ l _ _ m one_way.1 (sym (answers (list_missed mine paired r x l f)) ∙ e) in (
            s,
            u,
            fills,
            fills',
            λ same. differ (sym (list_missed mine paired (state s) x l (missed_everywhere r s fills x.condition f)) ∙ same
                ∙ list_missed mine paired (state u) x l (missed_everywhere r u fills' x.condition f)),
          )
      by_condition (Open k) f =
          let (s, fills, met) = open_met r x.condition k f one_way.0 in
          let (u, fills', missed) = open_missed r x.condition k f apart in (
            s,
            u,
            fills,
            fills',
            λ same. differ_beyond mine paired Success (root_condition_at (length (x ∷ l))) (state u) l _ (later_at paired (length (x ∷ l)) x)
                (λ q. absurd_status q (λ z. omega arith)) (root_inside paired (length (x ∷ l)) x)
                (sym (list_met mine paired (state s) x l met) ∙ same ∙ list_missed mine paired (state u) x l missed),
          )

-- ---- an action is named only where its condition is confirmed, unread facts or not

module _ (mine : ℕ → Bool) (paired : Bool) (none : Entry Condition) (r : Reading) where
  later_named : (l : List (Entry Condition)) (before at job : ℕ) → (later_verdict mine paired r before l at).answer ≡ Running job → Named none l r job
  unfolding later_verdict kind_of
  later_named [] before at job e = absurd_status e (λ z. omega arith)
  later_named (x ∷ l) before at job e = by_condition (evaluated r x.condition) refl (later_named l)
    where
      further : Named none l r job → Named none (x ∷ l) r job
      further n = record { at = suc n.at; inside = omega (arith, n.inside); is_action = n.is_action; confirmed = n.confirmed }

      by_condition : (v : Evaluation) → evaluated r x.condition ≡ v
          → ((before at job : ℕ) → (later_verdict mine paired r before l at).answer ≡ Running job → Named none l r job) → Named none (x ∷ l) r job
      by_condition Met f rest =
          let q : leaf_status (mine x.action) x.action ≡ Running job = sym (answers (later_met mine paired r x l before at f)) ∙ e in
          record { at = 0; inside = omega arith; is_action = leaf_named (mine x.action) x.action job q; confirmed = met_confirmed r x.condition f }
      by_condition Missed f rest =
          further (rest (condition_at at) (past_entry mine paired x at) job (sym (answers (later_missed mine paired r x l before at f)) ∙ e))
      by_condition (Open n) f rest = absurd_status (sym (answers (later_open mine paired r x l before at n f)) ∙ e) (λ z. omega arith)

  -- Promise: the action is that of a later entry, all of whose facts are read, and held or absent as it asks.
  pub action_named : (x : Entry Condition) (l : List (Entry Condition)) (job : ℕ) → (tick_tree r (tree_of mine paired (x ∷ l))).answer ≡ Running job
      → Named none l r job
  unfolding kind_of
  action_named x l job e = by_condition (evaluated r x.condition) refl
    where
      by_condition : (v : Evaluation) → evaluated r x.condition ≡ v → Named none l r job
      by_condition Met f = absurd_status (sym (answers (list_met mine paired r x l f)) ∙ e) (λ z. omega arith)
      by_condition Missed f = later_named l _ _ job (sym (answers (list_missed mine paired r x l f)) ∙ e)
      by_condition (Open n) f = absurd_status (sym (answers (list_open mine paired r x l n f)) ∙ e) (λ z. omega arith)

-- ---- on a state, Failure exactly where no listed condition is met

module _ (mine : ℕ → Bool) (paired : Bool) (none : Entry Condition) (s : ℕ) where
  none_met : (x : Entry Condition) (l : List (Entry Condition)) → (T (satisfied x.condition s) → ⊥) → NoneMet none l s → NoneMet none (x ∷ l) s
  none_met x l h k zero i = h
  none_met x l h k (suc n) i = k n (omega arith)

  later_fails : (l : List (Entry Condition)) (before at : ℕ) → (later_verdict mine paired (state s) before l at).answer ≡ Failure ↔ NoneMet none l s
  unfolding later_verdict kind_of
  later_fails [] before at = (λ e i h t. not-suc-le-zero h, λ k. refl)
  later_fails (x ∷ l) before at = by_met (satisfied x.condition s) refl (later_fails l)
    where
      by_met : (b : Bool) → satisfied x.condition s ≡ b
          → ((before at : ℕ) → (later_verdict mine paired (state s) before l at).answer ≡ Failure ↔ NoneMet none l s)
          → (later_verdict mine paired (state s) before (x ∷ l) at).answer ≡ Failure ↔ NoneMet none (x ∷ l) s
      by_met true e rest =
          let is = answers (later_met mine paired (state s) x l before at (state_met s x.condition e)) in (
            λ f. absurd_status (sym is ∙ f) (λ z. omega (arith, leaf_kind (mine x.action) x.action)),
            λ k. absurd (k 0 (omega arith) (holds _ e)),
          )
      by_met false e rest =
          let is = answers (later_missed mine paired (state s) x l before at (state_missed s x.condition e)) in
          let others = rest (condition_at at) (past_entry mine paired x at) in (
            λ f. none_met x l (T_not (satisfied x.condition s) (fails (satisfied x.condition s) e)) (others.0 (sym is ∙ f)),
            λ k. is ∙ others.1 (λ i h. k (suc i) (omega arith)),
          )

  -- Promise: where nothing is unread, the tree fails exactly where the state meets no listed condition.
  pub failure_iff : (x : Entry Condition) (l : List (Entry Condition))
      → (tick_tree (state s) (tree_of mine paired (x ∷ l))).answer ≡ Failure ↔ NoneMet none (x ∷ l) s
  unfolding kind_of
  failure_iff x l = by_met (satisfied x.condition s) refl
    where
      by_met : (b : Bool) → satisfied x.condition s ≡ b → (tick_tree (state s) (tree_of mine paired (x ∷ l))).answer ≡ Failure ↔ NoneMet none (x ∷ l) s
      by_met true e =
          let is = answers (list_met mine paired (state s) x l (state_met s x.condition e)) in (
            λ f. absurd_status (sym is ∙ f) (λ z. omega arith),
            λ k. absurd (k 0 (omega arith) (holds _ e)),
          )
      by_met false e =
          let is = answers (list_missed mine paired (state s) x l (state_missed s x.condition e)) in
          let others = later_fails l _ _ in (
            λ f. none_met x l (T_not (satisfied x.condition s) (fails (satisfied x.condition s) e)) (others.0 (sym is ∙ f)),
            λ k. is ∙ others.1 (λ i h. k (suc i) (omega arith)),
          )

-- ---- one who has some of the actions sees what is his of the tree with all of them

module _ (mine : ℕ → Bool) (paired : Bool) (r : Reading) where
  later_seen : (l : List (Entry Condition)) (before at before' at' : ℕ)
      → (later_verdict mine paired r before l at).answer ≡ seen_by mine (later_verdict everyone paired r before' l at').answer
  unfolding later_verdict
  later_seen [] before at before' at' = refl
  later_seen (x ∷ l) before at before' at' = by_condition (evaluated r x.condition) refl (later_seen l)
    where
      by_condition : (v : Evaluation) → evaluated r x.condition ≡ v
          → ((before at before' at' : ℕ) → (later_verdict mine paired r before l at).answer ≡ seen_by mine (later_verdict everyone paired r before' l at').answer)
          → (later_verdict mine paired r before (x ∷ l) at).answer ≡ seen_by mine (later_verdict everyone paired r before' (x ∷ l) at').answer
      by_condition Met e rest = rw (later_met mine paired r x l before at e, later_met everyone paired r x l before' at' e)
      by_condition Missed e rest = rw (later_missed mine paired r x l before at e, later_missed everyone paired r x l before' at' e) (rest _ _ _ _)
      by_condition (Open m) e rest = rw (later_open mine paired r x l before at m e, later_open everyone paired r x l before' at' m e)

  -- Promise: a tick answers him what it answers on the tree with all actions, but that he waits where the action is another's.
  pub tick_seen : (x : Entry Condition) (l : List (Entry Condition))
      → (tick_tree r (tree_of mine paired (x ∷ l))).answer ≡ seen_by mine (tick_tree r (tree_of everyone paired (x ∷ l))).answer
  tick_seen x l = by_condition (evaluated r x.condition) refl
    where
      by_condition : (v : Evaluation) → evaluated r x.condition ≡ v
          → (tick_tree r (tree_of mine paired (x ∷ l))).answer ≡ seen_by mine (tick_tree r (tree_of everyone paired (x ∷ l))).answer
      by_condition Met e = rw (list_met mine paired r x l e, list_met everyone paired r x l e)
      by_condition Missed e = rw (list_missed mine paired r x l e, list_missed everyone paired r x l e) (later_seen l _ _ _ _)
      by_condition (Open m) e = rw (list_open mine paired r x l m e, list_open everyone paired r x l m e)
