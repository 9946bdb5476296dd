-- What the parts of the code leave comes to the plan that the definition gives.
-- Assumes nothing.
use Rattle.std.specs.Prelude.{ℕ, ◌+◌, ◌≤◌, ◌<◌, ◌≡◌, Bool, true, false, List, [], ◌++◌, leb, length, take, drop, if◌then◌else◌}
use Rattle.std.proofs.Common.{arith, sym, ap, ◌∙◌, subst, append-nil, drop_of_length-le, le-leb}
use Rattle.std.proofs.Math.Path.{refl}
use Rattle.std.proofs.Math.Seq.{take-length}
use Rattle.std.proofs.lemmas.Bool.{lt-leb}
use Rattle.base.specs.Lists.{length_prefix}
use Rattle.refusal.specs.Checked.{Checked, accepted, refused, and_then}
use Rattle.refusal.specs.CheckedLaws.{not_both, accepted_same, accepted_then}
use Rattle.conditions.specs.declared.Condition.{Condition}
use Rattle.conditions.specs.Condition.{plain}
use Rattle.table.specs.Table.{Table}
use Rattle.planning.specs.Expansion.{Entry, Outcome, exhausted, covered, full, entries}
use Rattle.planning.specs.Columns.{max_entries, entry_at, entries_of}
use Rattle.planning.specs.Facts.{Actions, fact_plan}
use Rattle.expander.specs.declared.Expanded.{Expanded}
use Rattle.expander.specs.declared.Expanded.TheVariants as X
use Rattle.expander.specs.declared.Until.{Until}
use Rattle.expander.specs.declared.Until.TheVariants as U
use Rattle.expander.specs.Expands.{Columns, columns, capacity_of, Unlent, ended_by, over, written, room, held, plan_in, expanded_of, listed_by, Expands, if_paired}
use Rattle.expander.specs.ExpandsLaws.{cut_paired, capacity_most, capacity_pairs, stored, list_held, list_length, held_length, stored_small, exhausted_some, covered_some, over_long}
use Rattle.flat.specs.TreeBytes.{own_tree, everyone, tree_bytes, tree_entries}
use Rattle.flat.specs.FlatTreeLaws.{tree_columns}
use Rattle.builder.specs.declared.Size.{Size}
use Rattle.builder.specs.FinishLaws.{listed_entries, planned_list, WholeOf, planned_whole, trees_short, trees_fit, lists_refused, lists_finished, lists_untouched}
use Rattle.builder.specs.Plan.{table_actions, pairs, table_list, used, Stands, WritesList, Plan, no_plan, one_tree, list_only, list_and_tree, with_tree, finished_by, plan_by, table_plan, size_of, AtFront, WritesTree, WritesPlan}

-- ---- the tree of a list that stands in columns

module _ {Told : Type 0} (paired : Bool) (l : List (Entry Condition)) (told : Told) (lent tree : List ℕ) (answer : Checked Told) where
  -- 12: the lent tree is too short, and stays as it is
  pub tree_short : length lent < length (tree_bytes paired l) → lent ≡ tree → answer ≡ refused 12 (length l)
      → WritesTree (with_tree paired (length lent) told l) lent tree answer
  tree_short h same a =
      trees_short (one_tree paired (length lent) (λ m. told)) paired (AtFront lent tree) answer l (lt-leb (length (tree_bytes paired l)) (length lent) h) (sym same) a

  pub tree_fits : length (tree_bytes paired l) ≤ length lent → tree ≡ tree_bytes paired l ++ drop (length (tree_bytes paired l)) lent → answer ≡ accepted told
      → WritesTree (with_tree paired (length lent) told l) lent tree answer
  tree_fits h written a =
      trees_fit (one_tree paired (length lent) (λ m. told)) paired (AtFront lent tree) answer l (le-leb (length (tree_bytes paired l)) (length lent) h) written a

pub sized : {n b : ℕ} (paired : Bool) (l : List (Entry Condition)) → length l ≡ n → b ≡ length (tree_bytes paired l)
    → ◌≡◌ {A = Checked Size} (accepted (record { entries = n; bytes = b; paired = paired })) (accepted (size_of paired l))
sized paired l e f = rw (← e, f)

-- the same tree, of a list that has the same conditions and actions, with another answer
module _ {Told Other : Type 0} (paired : Bool) (room : ℕ) (l m : List (Entry Condition)) (sizes : length l ≡ length m)
    (trees : tree_bytes paired l ≡ tree_bytes paired m)
    (a : Told) (b : Other) (f : Told → Other) (same : f a ≡ b) (lent tree : List ℕ) (told : Checked Told) where
  pub retold : WritesTree (with_tree paired room a l) lent tree told → WritesTree (with_tree paired room b m) lent tree (and_then told (λ x. accepted (f x)))
  retold = rw (← sizes, ← trees) (by_room (leb (length (tree_bytes paired l)) room))
    where
      by_room : (fits : Bool) → WritesTree (if fits then list_and_tree paired a l else list_only paired 12 (length l) l) lent tree told
          → WritesTree (if fits then record { answer = accepted b; paired = paired; list = m; tree = tree_bytes paired l } else list_only paired 12 (length l) m)
          lent tree (and_then told (λ x. accepted (f x)))
      by_room true W = record { answer = ap (λ (t : Checked Told). and_then t (λ x. accepted (f x))) W.answer ∙ ap accepted same; tree_written = W.tree_written }
      by_room false W = record { answer = ap (λ (t : Checked Told). and_then t (λ x. accepted (f x))) W.answer; tree_written = W.tree_written }

-- ---- how a list ended

-- a list that covers a start was ended by a condition that the start meets
pub covered_told : (start : ℕ) (o : Outcome Condition) (l : List (Entry Condition)) → listed_by (U.Covers start) o ≡ accepted l → o ≡ covered l
covered_told start (full m) l e = absurd (not_both e)
covered_told start (exhausted m) l e = absurd (not_both e)
covered_told start (covered m) l e = ap covered (accepted_same e)

refused_then : {A B : Type 0} (c : Checked A) (k : A → B) (n p : ℕ) → refused n p ≡ and_then c (λ a. accepted (k a)) → c ≡ refused n p
refused_then (accepted a) k n p e = absurd (not_both e)
refused_then (refused m q) k n p e = cc

module _ {paired : Bool} {A : Actions} {goal : Condition} {until : Until} {before after : Columns} {x : Expanded} (E : Expands paired A goal until before after x) where
  -- the list ended as was asked
  module _ (n : ℕ) (e : expanded_of until x ≡ accepted n) where
    ended_stored : stored x ≡ n
    ended_stored = by_answer until x e
      where
        by_answer : (u : Until) (x : Expanded) → expanded_of u x ≡ accepted n → stored x ≡ n
        by_answer u (X.Full m) e = absurd (not_both e)
        by_answer (U.Covers start) (X.Exhausted m) e = absurd (not_both e)
        by_answer U.Never (X.Exhausted m) e = accepted_same e
        by_answer (U.Covers start) (X.Covered m) e = accepted_same e
        by_answer U.Never (X.Covered m) e = accepted_same e

    ended_listed : listed_by until (plan_in paired before A goal until) ≡ accepted (held after n)
    ended_listed =
        let w = accepted_then (listed_by until (plan_in paired before A goal until)) (λ l. accepted (length l)) n (sym E.answer ∙ e) in
        w.1 ∙ ap accepted (listed_entries until (plan_in paired before A goal until) w.0 w.1 ∙ sym (list_held E) ∙ ap (held after) ended_stored)

    ended_some : 1 ≤ n
    ended_some = by_answer until x E e
      where
        by_answer : (u : Until) (x : Expanded) → Expands paired A goal u before after x → expanded_of u x ≡ accepted n → 1 ≤ n
        by_answer u (X.Full m) E e = absurd (not_both e)
        by_answer (U.Covers start) (X.Exhausted m) E e = absurd (not_both e)
        by_answer U.Never (X.Exhausted m) E e = omega (arith, exhausted_some E, accepted_same e)
        by_answer (U.Covers start) (X.Covered m) E e = omega (arith, covered_some E, accepted_same e)
        by_answer U.Never (X.Covered m) E e = omega (arith, covered_some E, accepted_same e)

  refused_listed : (n p : ℕ) → expanded_of until x ≡ refused n p → listed_by until (plan_in paired before A goal until) ≡ refused n p
  refused_listed n p e = refused_then (listed_by until (plan_in paired before A goal until)) length n p (sym e ∙ E.answer)

  -- ---- the columns are long enough for it

  stands : (field : Entry Condition → ℕ) (xs ys : List ℕ) → xs ≡ over field (entries (plan_in paired before A goal until)) ys → stored x ≤ length xs
  stands field xs ys e = omega (arith, ap length e, over_long (entries (plan_in paired before A goal until)) field ys, list_length E)

  ended_stands : (n : ℕ) → expanded_of until x ≡ accepted n → Stands n after
  ended_stands n e =
      let same = ended_stored n e in
      record {
        some = ended_some n e;
        few = omega (arith, stored_small E, same);
        in_conditions = omega (arith, stands (λ x. x.condition.present) _ _ (ap (λ (t : Columns). t.conditions) E.tables), same);
        in_actions = omega (arith, stands (λ x. x.action) _ _ (ap (λ (t : Columns). t.actions) E.tables), same);
      }

-- ---- the plan of a table

module _ {Told : Type 0} (paired : Bool) (tell : List (Entry Condition) → Told) (until : Until) (room : ℕ) (o : Outcome Condition) where
  pub plan_list : (plan_by paired until room tell o).list ≡ entries o
  plan_list = (planned_list (one_tree paired room tell) paired until o).0

  pub plan_paired : (plan_by paired until room tell o).paired ≡ paired
  plan_paired = (planned_list (one_tree paired room tell) paired until o).1

module _ {t : Table} {until : Until} {before after : Columns} {ended : Checked ℕ} (L : WritesList until t before after ended) where
  -- a list that did not end as was asked
  pub list_refused : (n p : ℕ) → ended ≡ refused n p → listed_by until (table_list until t (room before)) ≡ refused n p
  list_refused n p e = refused_then (listed_by until (table_list until t (room before))) length n p (sym e ∙ L.answer)

module _ {Told : Type 0} {t : Table} {until : Until} {before after : Columns} {ended : Checked ℕ} (L : WritesList until t before after ended)
    (tell : List (Entry Condition) → Told) (lent : List ℕ) (told : Checked Told) where
  abbrev plan : Plan Told
  plan = table_plan until t (room before) (length lent) tell

  abbrev outcome : Outcome Condition
  outcome = table_list until t (room before)

  -- 10 or 11: no tree is written
  pub writes_list : (n p : ℕ) → ended ≡ refused n p → told ≡ refused n p → WritesPlan plan before after lent lent told
  unfolding table_plan
  writes_list n p e a =
      lists_refused (one_tree (pairs t) (length lent) tell) (pairs t) (AtFront lent lent) told until outcome before after L.tables n p (list_refused L n p e) refl a

  writes_tree : (n : ℕ) → ended ≡ accepted n → (tree : List ℕ)
      → WritesTree (with_tree (pairs t) (length lent) (tell (held (used (pairs t) after) n)) (held (used (pairs t) after) n)) lent tree told
      → WritesPlan plan before after lent tree told
  unfolding table_plan
  writes_tree n e tree W =
      lists_finished (one_tree (pairs t) (length lent) tell) (pairs t) (AtFront lent tree) told until outcome before after L.tables (held (used (pairs t) after) n) (L.list_held n e) W

-- the entries as far as a tree shows them
abbrev pub drawn : Columns → ℕ → List (Entry Condition)
drawn t n = tree_entries t.conditions t.absences t.actions n

-- they are as many as those of the list, and have the same tree, whose ever
pub drawn_length : (paired : Bool) (t : Columns) (n : ℕ) → length (drawn t n) ≡ length (held (used paired t) n)
drawn_length paired t n = length_prefix (entry_at t.conditions t.absences t.actions [] []) n ∙ sym (held_length (used paired t) n)

pub drawn_tree : (mine : ℕ → Bool) (paired : Bool) (t : Columns) (n : ℕ) → own_tree mine paired (drawn t n) ≡ own_tree mine paired (held (used paired t) n)
drawn_tree mine paired t n =
    tree_columns mine paired t.conditions t.absences t.actions t.parents t.depths n
    ∙ ap (λ (xs : List ℕ). own_tree mine paired (entries_of t.conditions xs t.actions t.parents t.depths n)) (sym (cut_paired paired t.absences))

tree_held : (paired : Bool) (after : Columns) (n : ℕ) (lent tree : List ℕ) (told : Checked Size)
    → WritesTree (with_tree paired (length lent) (size_of paired (drawn after n)) (drawn after n)) lent tree told
    → WritesTree (with_tree paired (length lent) (size_of paired (held (used paired after) n)) (held (used paired after) n)) lent tree told
tree_held paired after n lent tree told W =
    let shown = drawn after n in
    let list = held (used paired after) n in
    let sizes = drawn_length paired after n in
    let trees = drawn_tree everyone paired after n in
    subst (WritesTree (with_tree paired (length lent) (size_of paired list) list) lent tree) (as_told told)
    (retold paired (length lent) shown list sizes trees (size_of paired shown) (size_of paired list) (λ x. x) (rw (sizes, trees)) lent tree told W)
  where
    as_told : (c : Checked Size) → and_then c (λ x. accepted x) ≡ c
    as_told (accepted s) = refl
    as_told (refused n p) = refl

-- the list ended as was asked, and the tree of its columns is written where it fits
pub writes_built : {t : Table} {until : Until} {before after : Columns} {ended : Checked ℕ} (L : WritesList until t before after ended)
    (lent : List ℕ) (told : Checked Size) (n : ℕ) → ended ≡ accepted n → (tree : List ℕ)
    → WritesTree (with_tree (pairs t) (length lent) (size_of (pairs t) (drawn after n)) (drawn after n)) lent tree told
    → WritesPlan (table_plan until t (room before) (length lent) (size_of (pairs t))) before after lent tree told
writes_built {t} {after = after} L lent told n e tree W =
    writes_tree L (size_of (pairs t)) lent told n e tree (tree_held (pairs t) after n lent tree told W)

-- ---- what the answer of a plan tells

module _ {Told : Type 0} (paired : Bool) (until : Until) (room : ℕ) (tell : List (Entry Condition) → Told) (o : Outcome Condition) where
  -- an accepted answer: its list, which ended as was asked, and whose tree fits
  abbrev pub Whole : Told → Type 0
  Whole = WholeOf (one_tree paired room tell) paired until o

  pub whole_told : (p : Told) → (plan_by paired until room tell o).answer ≡ accepted p → Whole p
  whole_told = planned_whole (one_tree paired room tell) paired until o

-- A plan that tells something else of the same list leaves the same in every lent slice.
module _ {Told Other : Type 0} (paired : Bool) (until : Until) (room : ℕ) (tell : List (Entry Condition) → Told) (other : List (Entry Condition) → Other)
    (o : Outcome Condition) (before after : Columns) (lent tree : List ℕ) where
  pub writes_other : (p : Told) (q : Other) → WritesPlan (plan_by paired until room tell o) before after lent tree (accepted p)
      → ((l : List (Entry Condition)) → p ≡ tell l → l ≡ entries o → q ≡ other l) → WritesPlan (plan_by paired until room other o) before after lent tree (accepted q)
  writes_other p q W same =
      let w = whole_told paired until room tell o p (sym W.answer_and_tree.answer) in
      let fits : with_tree paired room (tell w.list) w.list ≡ list_and_tree paired (tell w.list) w.list =
      sym (ap (finished_by paired room tell (entries o)) w.listed) ∙ w.plan_is in
      let here : plan_by paired until room other o ≡ list_and_tree paired (other w.list) w.list =
      ap (finished_by paired room other (entries o)) w.listed ∙ by_fit (leb (length (tree_bytes paired w.list)) room) w.list (ap (λ (P : Plan Told). P.answer) fits) in
      rw here (record {
        tables = W.tables ∙ ap (λ (P : Plan Told). written P.paired P.list before) w.plan_is;
        answer_and_tree = record {
          answer = ap accepted (same w.list w.told_is (listed_entries until o w.list w.listed));
          tree_written = W.answer_and_tree.tree_written ∙ ap (λ (P : Plan Told). P.tree ++ drop (length P.tree) lent) w.plan_is;
        };
      })
    where
      by_fit : (fits : Bool) (l : List (Entry Condition)) → (if fits then list_and_tree paired (tell l) l else list_only paired 12 (length l) l).answer ≡ accepted (tell l)
          → (if fits then list_and_tree paired (other l) l else list_only paired 12 (length l) l) ≡ list_and_tree paired (other l) l
      by_fit true l a = refl
      by_fit false l a = absurd (not_both a)

  pub writes_refused : (n p : ℕ) → WritesPlan (plan_by paired until room tell o) before after lent tree (refused n p)
      → WritesPlan (plan_by paired until room other o) before after lent tree (refused n p)
  writes_refused n p W = by_end (listed_by until o) W
    where
      by_fit : (fits : Bool) (l : List (Entry Condition)) → WritesPlan (if fits then list_and_tree paired (tell l) l else list_only paired 12 (length l) l) before after lent tree (refused n p)
          → WritesPlan (if fits then list_and_tree paired (other l) l else list_only paired 12 (length l) l) before after lent tree (refused n p)
      by_fit true l W = absurd (not_both W.answer_and_tree.answer)
      by_fit false l W = record { tables = W.tables; answer_and_tree = record { answer = cc W.answer_and_tree.answer; tree_written = W.answer_and_tree.tree_written } }

      by_end : (c : Checked (List (Entry Condition))) → WritesPlan (finished_by paired room tell (entries o) c) before after lent tree (refused n p)
          → WritesPlan (finished_by paired room other (entries o) c) before after lent tree (refused n p)
      by_end (accepted l) W = by_fit (leb (length (tree_bytes paired l)) room) l W
      by_end (refused m q) W = record { tables = W.tables; answer_and_tree = record { answer = cc W.answer_and_tree.answer; tree_written = W.answer_and_tree.tree_written } }

-- nothing is written
pub writes_nothing : {Told : Type 0} (n p : ℕ) (before : Columns) (lent : List ℕ) (told : Checked Told) → told ≡ refused n p
    → WritesPlan (no_plan n p) before before lent lent told
writes_nothing n p before lent told a = lists_untouched (AtFront lent lent) [] refl n p before told a

-- ---- the tables' capacity is the papers'

pub columns_few : (before : Columns) (paired : Bool) → room before paired ≤ max_entries paired
columns_few t true = capacity_pairs (length t.conditions) (length t.absences) (length t.actions) (length t.parents) (length t.depths) true tt
columns_few t false = capacity_most (length t.conditions) (length t.absences) (length t.actions) (length t.parents) (length t.depths) false

-- ---- a list in tables of which the further one is lent as far as the list needs it

-- a list that is not paired is lent none of it
pub cut_unlent : (paired : Bool) (n : ℕ) (absences : List ℕ) → n ≡ if_paired paired (length absences) → Unlent paired (take n absences)
cut_unlent true n absences e t = absurd t
cut_unlent false n absences e t = rw e

room_used : (paired : Bool) (t : Columns) → room (used paired t) paired ≡ room t paired
unfolding capacity_of
room_used true t = rw take-length
room_used false t = refl

-- what is not lent stays as it is
module _ (before : Columns) (conditions absences actions parents depths lent : List ℕ) where
  abbrev after : Columns
  after = columns conditions absences actions parents depths

  abbrev cut : Columns
  cut = columns conditions lent actions parents depths

  -- the further table, which was lent so far and is whole again
  abbrev Rest : Bool → Type 0
  Rest paired = absences ≡ lent ++ drop (if_paired paired (length before.absences)) before.absences

  all_lent : lent ++ drop (length before.absences) before.absences ≡ lent
  all_lent = rw (drop_of_length-le before.absences {i = length before.absences} (omega arith), append-nil)

  tables_used : (paired : Bool) (l : List (Entry Condition)) → cut ≡ written paired l (used paired before) → Rest paired → after ≡ written paired l before
  tables_used true l w q =
      ap (λ (xs : List ℕ). columns conditions xs actions parents depths) (q ∙ all_lent) ∙ w
      ∙ ap (λ (xs : List ℕ). written true l (columns before.conditions xs before.actions before.parents before.depths)) (take-length before.absences)
  tables_used false l w q =
      let kept : absences ≡ before.absences = q ∙ ap (λ (xs : List ℕ). xs ++ before.absences) (ap (λ (t : Columns). t.absences) w) in
      λ i. columns (w i).conditions (kept i) (w i).actions (w i).parents (w i).depths

  cut_used : (paired : Bool) (l : List (Entry Condition)) → cut ≡ written paired l (used paired before) → Rest paired → cut ≡ used paired after
  cut_used true l w q =
      ap (λ (xs : List ℕ). columns conditions xs actions parents depths) (sym (q ∙ all_lent) ∙ sym (take-length absences))
  cut_used false l w q = ap (λ (xs : List ℕ). columns conditions xs actions parents depths) (ap (λ (t : Columns). t.absences) w)

  pub writes_lent : (t : Table) (until : Until) (x : Expanded) (ended : Checked ℕ) (n : ℕ) → n ≡ if_paired (pairs t) (length before.absences)
      → (let lists = columns before.conditions (take n before.absences) before.actions before.parents before.depths in
      Expands (pairs t) (table_actions t) (plain t.goal) until lists cut x)
      → ended ≡ expanded_of until x → absences ≡ lent ++ drop n before.absences → WritesList until t before after ended
  writes_lent t until x ended n u E₀ a q₀ =
      record {
        tables = tables_used (pairs t) (entries (table_list until t (room before))) (E.tables ∙ ap (λ (o : Outcome Condition). written (pairs t) (entries o) (used (pairs t) before)) same) q;
        answer = a ∙ E.answer ∙ ap (λ (o : Outcome Condition). and_then (listed_by until o) (λ l. accepted (length l))) same;
        list_stands = λ k e. let S = ended_stands E k (sym a ∙ e) in record { some = S.some; few = S.few; in_conditions = S.in_conditions; in_actions = S.in_actions };
        list_held = λ k e.
            ap (listed_by until) (sym same) ∙ ended_listed E k (sym a ∙ e) ∙ ap (λ (t : Columns). accepted (held t k)) (cut_used (pairs t) (entries (plan_in (pairs t) (used (pairs t) before) (table_actions t) (plain t.goal) until)) E.tables q);
      }
    where
      E : Expands (pairs t) (table_actions t) (plain t.goal) until (used (pairs t) before) cut x
      E = rw u at E₀

      q : Rest (pairs t)
      q = rw u at q₀

      same : plan_in (pairs t) (used (pairs t) before) (table_actions t) (plain t.goal) until ≡ table_list until t (room before)
      same = ap (λ (k : ℕ). fact_plan (table_actions t) (plain t.goal) k (ended_by until)) (room_used (pairs t) before)
