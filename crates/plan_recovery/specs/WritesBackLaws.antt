-- What the parts of the code found comes to the list that is due, and what they leave to what is written back.
-- Assumes nothing.
use Rattle.std.specs.Prelude.{ℕ, ◌≤◌, ◌≡◌, refl, Bool, true, false, List, [], T, ltb, length, None}
use Rattle.std.proofs.Common.{arith, sym, ap, ◌∙◌, subst, ⊎_elim, T_not, ltb-true, ltb-false, le-leb}
use Rattle.std.proofs.lemmas.Bool.{lt-leb}
use Rattle.base.specs.Bools.{holds, fails}
use Rattle.refusal.specs.Checked.{Checked, accepted, refused, and_then}
use Rattle.refusal.specs.CheckedLaws.{accepted_same}
use Rattle.numbers.specs.Numbers.{AreBytes}
use Rattle.conditions.specs.declared.Condition.{Condition}
use Rattle.table.specs.Table.{Table}
use Rattle.table.specs.declared.Header.{Header}
use Rattle.table.specs.Read.{read_table, header_of, headed}
use Rattle.planning.specs.Expansion.{Entry}
use Rattle.planning.specs.Columns.{max_entries}
use Rattle.tree.specs.Tree.{Tree}
use Rattle.tree.specs.ReadTree.{read_tree}
use Rattle.flat.specs.TreeBytes.{tree_size}
use Rattle.expander.specs.declared.Until.TheVariants.{Covers}
use Rattle.expander.specs.Expands.{Columns, columns, room, written}
use Rattle.expander.specs.ExpandsLaws.{capacity_conditions, capacity_actions, capacity_parents, capacity_depths, over_long}
use Rattle.builder.specs.declared.Size.{Size}
use Rattle.builder.specs.Plan.{pairs, Plan, list_and_tree, size_of}
use Rattle.tree_shows.specs.Shown.{sound_tree, HasEntries, Shows, last_mask, same_bytes}
use Rattle.tree_shows.specs.ShownLaws.{same_bytes_equal, bytes_same}
use Rattle.recovery_parts.specs.Parts.{judged_for, told_of, copied, Holds}
use Rattle.recovery_parts.specs.PartsLaws.{copied_written}
use Rattle.plan_recovery.specs.Recovery.{list_of, fitting, recovered, WritesBack}
use Rattle.plan_recovery.specs.Made.{made_for, Compares}
use Rattle.plan_recovery.specs.RecoveryLaws.{Source, source_few, source_size, shown_plan_is, plan_is, wrote_source, wrote_same, source_list}
use Rattle.plan_recovery.specs.RecoveryLaws.{list_cases, paired_list, sound_told, sound_recovered, bad_recovered}

-- the tables of a list without second masks
abbrev pub plain_tables : Columns → Columns
plain_tables t = columns t.conditions [] t.actions t.parents t.depths

-- tables with room for n entries hold as many
module _ (t : Columns) where
  pub holds_room : (n : ℕ) → ltb (room t false) n ≡ false → Holds n t
  holds_room n f =
      let c = length t.conditions in
      let s = length t.absences in
      let a = length t.actions in
      let p = length t.parents in
      let d = length t.depths in
      let fits : n ≤ room t false = ltb-false (room t false) n f in
      record {
        in_conditions = omega (arith, fits, capacity_conditions c s a p d false);
        in_actions = omega (arith, fits, capacity_actions c s a p d false);
        in_parents = omega (arith, fits, capacity_parents c s a p d false);
        in_depths = omega (arith, fits, capacity_depths c s a p d false);
      }

-- and so do those to which a list of n was written, whose entries are given back if there is room for them
module _ (l : List (Entry Condition)) (lists : Columns) {from : Columns} {n : ℕ} (w : from ≡ written false l lists) (size : length l ≡ n) where
  holds_written : Holds n (plain_tables from)
  holds_written =
      rw (w, ← size) (record {
        in_conditions = over_long l (λ x. x.condition.present) lists.conditions;
        in_actions = over_long l (λ x. x.action) lists.actions;
        in_parents = over_long l (λ x. x.parent) lists.parents;
        in_depths = over_long l (λ x. x.depth) lists.depths;
      })

  list_back : (room : ℕ) → n ≤ room → (before : Columns) → WritesBack (fitting room l) before (copied n from before) (accepted n)
  list_back room h before = rw (le-leb (length l) room (omega arith), w, ← size) (record { answer = refl; tables = copied_written l lists before })

holds_none : (t : Columns) → Holds 0 t
holds_none t = record { in_conditions = omega arith; in_actions = omega arith; in_parents = omega arith; in_depths = omega arith }

-- what a header tells is told of its table
pub header_is : {h : Header} {r : Checked Table} → accepted h ≡ headed r → (t : Table) → accepted t ≡ r → h ≡ header_of t
header_is e t q = accepted_same (e ∙ ap headed (sym q))

module _ (table : List ℕ) (b : AreBytes table) (t : Table) (tree : List ℕ) (q : accepted t ≡ sound_tree table tree) where
  abbrev told : (read_table table ≡ accepted t) × (x : Tree) × (read_tree tree t.facts (length t.jobs) ≡ accepted x)
  told = sound_told table tree t (sym q)

  -- no list has a tree of so many bytes
  none_due : Shows (pairs t) (length tree) None → list_of t table tree ≡ refused 20 0
  none_due never = by_pairs (pairs t) refl
    where
      by_pairs : (paired : Bool) → pairs t ≡ paired → list_of t table tree ≡ refused 20 0
      by_pairs true p = paired_list table b t told.0 tree told.1 told.2 p
      by_pairs false p =
          ⊎_elim (λ other. other)
          (λ w.
          absurd (never (length w.0) (record {
            no_pair = p;
            some = w.1.some;
            few = source_few table b t told.0 p w.1;
            size_is = sym (source_size table b t told.0 p w.1);
          })))
          (list_cases table b t told.0 p tree told.1 told.2)

  pub none_back : Shows (pairs t) (length tree) None → (room : ℕ) (before : Columns)
      → WritesBack (and_then (list_of t table tree) λ l. fitting room l) before before (refused 20 0)
  none_back never room before = rw (none_due never) (record { answer = refl; tables = refl })

  -- a plan was made for the last mask that the tree of n entries shows, with room for so many
  module _ {n : ℕ} (S : HasEntries (pairs t) (length tree) n) where
    abbrev plan : Plan Size
    plan = made_for t tree n

    -- a list of another size has another tree
    size_is : (l : List (Entry Condition)) → Source table b t told.0 S.no_pair tree l → length l ≡ n
    size_is l source = omega (arith, S.some, S.size_is, source_size table b t told.0 S.no_pair source, source.some)

    made_source : T (same_bytes plan.tree tree) → Source table b t told.0 S.no_pair tree plan.list
    made_source same =
        let most = tree_size false (max_entries false) in
        let tell = size_of (pairs t) in
        subst (λ (P : Plan Size). P.tree ≡ tree → Source table b t told.0 S.no_pair tree P.list)
        (sym (plan_is table b t told.0 S.no_pair tree told.1 told.2 (λ paired. n) (Covers (last_mask tree)) most tell))
        (λ w. wrote_source table b t told.0 S.no_pair tree told.1 told.2 (λ paired. n) (Covers (last_mask tree)) most tell S.few
        (wrote_same table b t told.0 S.no_pair tree told.1 told.2 (λ paired. n) (Covers (last_mask tree)) most tell w))
        (same_bytes_equal plan.tree tree same)

    source_made : (l : List (Entry Condition)) → Source table b t told.0 S.no_pair tree l → plan ≡ list_and_tree false (size_of (pairs t) l) l
    source_made l source =
        shown_plan_is table b t told.0 S.no_pair source (λ paired. n) (tree_size false (max_entries false)) (size_of (pairs t)) (omega (arith, size_is l source))
        (omega (arith, source_size table b t told.0 S.no_pair source, source_few table b t told.0 S.no_pair source, source.some))

  -- and its bytes were compared
  module _ {n : ℕ} {from : Columns} {same : Bool} (C : Compares t tree n from same) where
    abbrev list : List (Entry Condition)
    list = (made_for t tree n).list

    planned_due : same ≡ true → (list_of t table tree ≡ accepted list) × (length list ≡ n)
    planned_due e =
        let source = made_source C.shown (holds _ (sym C.is_same ∙ e)) in
        (source_list table b t told.0 C.shown.no_pair tree told.1 told.2 list source, size_is C.shown list source)

    other_due : same ≡ false → list_of t table tree ≡ refused 20 0
    other_due e =
        ⊎_elim (λ other. other)
        (λ w.
        let bytes : (made_for t tree n).tree ≡ tree = ap (λ (P : Plan Size). P.tree) (source_made C.shown w.0 w.1) ∙ w.1.bytes in
        absurd (T_not (same_bytes (made_for t tree n).tree tree) (fails _ (sym C.is_same ∙ e)) (rw bytes (bytes_same tree))))
        (list_cases table b t told.0 C.shown.no_pair tree told.1 told.2)

    -- it was judged, and as many entries are copied as are told
    module _ {before : Columns} {answer : Checked ℕ} (j : answer ≡ judged_for same (ltb (room before false) n) n) {k : ℕ} (i : k ≡ told_of answer) where
      pub told_held : Holds k (plain_tables from) × Holds k before
      told_held = rw (i, j) (by same (ltb (room before false) n) refl refl)
        where
          by : (s full : Bool) → same ≡ s → ltb (room before false) n ≡ full
              → Holds (told_of (judged_for s full n)) (plain_tables from) × Holds (told_of (judged_for s full n)) before
          by false full e f = (holds_none _, holds_none _)
          by true true e f = (holds_none _, holds_none _)
          by true false e f = (holds_written list C.before C.tables (planned_due e).1, holds_room before n f)

      pub told_back : {after : Columns} → after ≡ copied k from before → WritesBack (and_then (list_of t table tree) λ l. fitting (room before false) l) before after answer
      told_back c = rw (c, i, j) (by same (ltb (room before false) n) refl refl)
        where
          by : (s full : Bool) → same ≡ s → ltb (room before false) n ≡ full
              → WritesBack (and_then (list_of t table tree) λ l. fitting (room before false) l) before (copied (told_of (judged_for s full n)) from before) (judged_for s full n)
          by false full e f = rw (other_due e) (record { answer = refl; tables = refl })
          by true true e f =
              let short = lt-leb (length list) (room before false) (omega (arith, (planned_due e).1, ltb-true (room before false) n f)) in
              rw ((planned_due e).0, short) (record { answer = refl; tables = refl })
          by true false e f =
              rw (planned_due e).0 (list_back list C.before C.tables (planned_due e).1 (room before false) (ltb-false (room before false) n f) before)

-- ---- the whole

module _ (table tree : List ℕ) (entries : ℕ) (before : Columns) where
  -- the table, or the tree under it, is refused
  pub bad_back : (n p : ℕ) → refused n p ≡ sound_tree table tree → WritesBack (recovered table tree entries) before before (refused n p)
  bad_back n p q = rw (bad_recovered table tree entries n p q) (record { answer = refl; tables = refl })

  pub sound_back : (t : Table) → accepted t ≡ sound_tree table tree → (after : Columns) (told : Checked ℕ)
      → WritesBack (and_then (list_of t table tree) λ l. fitting entries l) before after told → WritesBack (recovered table tree entries) before after told
  sound_back t q after told w = rw (sound_recovered table tree entries t (sym q)) w
