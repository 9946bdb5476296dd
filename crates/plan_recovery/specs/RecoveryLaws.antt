-- A list is recovered from exactly the trees that plans write. The plan for a list's last condition, as the start, gives that list again, so that one
-- plan tells whether there is any.
-- Assumes nothing.
use Rattle.std.specs.Prelude.{ℕ, suc, ◌-◌, ◌≤◌, ◌<◌, ◌≡◌, refl, Bool, ◌↔◌, ◌⊎◌, T, if◌then◌else◌, Result}
use native.Mathlib.Omega.{arith}
use Rattle.std.proofs.Math.Path.{sym, ap, subst}
use Rattle.std.proofs.Common.{◌∙◌, inl, inr, ⊎_elim, T_not}
use Rattle.std.proofs.Math.Bool.{true, false}
use mathlib.Core.List.{List, [], ◌∷◌}
use Rattle.std.proofs.Math.Dec.{leb}
use Rattle.std.proofs.Math.ListN.{length}
use borrow.Author.Tests.{le-leb, lt-leb, leb-true, leb-false}
use Rattle.base.specs.Bools.{holds, fails, is_true, and_left}
use Rattle.base.specs.Lists.{prefix, prefix_all}
use Rattle.masks.specs.Sets.{within}
use Rattle.masks.specs.Laws.{within_word}
use Rattle.refusal.specs.declared.Refusal.{Refusal}
use Rattle.refusal.specs.Checked.{Checked, accepted, refused, and_then, answer_of}
use Rattle.refusal.specs.CheckedLaws.{not_both, accepted_same, accepted_then}
use Rattle.numbers.specs.Numbers.{AreBytes}
use Rattle.reading.specs.declared.Reading.{Reading}
use Rattle.reading.specs.Reading.{state}
use Rattle.reading.specs.ReadingLaws.{state_sound, start_sound}
use Rattle.conditions.specs.declared.Condition.{Condition}
use Rattle.conditions.specs.Condition.{plain, condition_within}
use Rattle.table.specs.Table.{Table}
use Rattle.table.specs.Read.{read_table}
use Rattle.planning.specs.Domain.{Domain}
use Rattle.planning.specs.Expansion.{Entry, Outcome, covered, entries, entry_in, root}
use Rattle.planning.specs.Columns.{max_entries}
use Rattle.planning.specs.Facts.{Actions, fact_plan, start_plan}
use Rattle.planning.proofs.FactLaws.{fact_plannable, entry_within, fact_replan}
use Rattle.planning.proofs.DemandLaws.{planned_fits}
use Rattle.tree.specs.Tree.{Tree}
use Rattle.commands.specs.Commands.{command_at}
use Rattle.tree.specs.ReadTree.{max_tree_bytes, whole_at, node_at, read_node, read_tree}
use Rattle.flat.specs.TreeBytes.{own_tree, tree_bytes, tree_size}
use Rattle.flat.specs.TreeBytesLaws.{tree_length}
use Rattle.expander.specs.declared.Until.{Until}
use Rattle.expander.specs.declared.Until.TheVariants.{Covers, Never}
use Rattle.expander.specs.Expands.{Columns, room, ended_by, listed_by}
use Rattle.runs.specs.Runs.{tick_on}
use Rattle.builder.specs.declared.Size.{Size}
use Rattle.builder.specs.Plan.{table_actions, table_domain, pairs, Plan, no_plan, one_tree, list_and_tree, plan_by, table_plan, size_of}
use Rattle.builder.specs.FinishLaws.{listed_entries, refused_tree}
use Rattle.builder.specs.PlanLaws.{columns_few, whole_told}
use Rattle.builder.specs.WorksLaws.{facts_few, within_facts, nothing_absent}
use Rattle.planner.specs.declared.Summary.{Summary}
use Rattle.planner.specs.Plan.{summary_of, start_for, plan_for}
use Rattle.planner.specs.PlanLaws.{start_passed, start_table, plan_refused, plan_started}
use Rattle.shift_planner.specs.Shift.{plan_shift}
use Rattle.shift_planner.specs.ShiftLaws.{shift_read}
use Rattle.tree_shows.specs.Shown.{sound_tree, last_mask, same_bytes}
use Rattle.tree_shows.specs.ShownLaws.{same_bytes_equal, bytes_same, last_shown}
use Rattle.plan_recovery.specs.Recovery.{plan_of, list_if, list_of, fitting, recovered, WritesBack}
use Rattle.plan_recovery.specs.Promise.{PlannedFor, Wrote, Restores, Recovers}

-- the plan for the last condition that a tree shows
abbrev shown_plan : (table tree : List ℕ) → Plan Summary
shown_plan table tree = plan_of table (last_mask tree)

-- a tree that was read has a byte
tree_some : (facts jobs : ℕ) (x : Tree) → read_tree [] facts jobs ≡ accepted x → ⊥
unfolding read_tree read_node node_at whole_at command_at
tree_some facts jobs x e = not_both e

-- Of a table that was read, and that has no 0x21:
module _ (table : List ℕ) (b : AreBytes table) (t : Table) (e : read_table table ≡ accepted t) (none : pairs t ≡ false) where
  abbrev A : Actions
  A = table_actions t

  abbrev goal : Condition
  goal = plain t.goal

  abbrev D : Domain ℕ Condition ℕ
  D = table_domain t

  -- where a tree can come from: a list that ended as was asked, for whatever start or none and with room for so many entries
  pub record Source (tree : List ℕ) (l : List (Entry Condition)) : Type 0 where
    pub capacity : ℕ
    pub few : capacity ≤ max_entries false
    pub until : Until
    pub listed : listed_by until (fact_plan A goal capacity (ended_by until)) ≡ accepted l
    pub some : 0 < length l
    pub bytes : tree_bytes false l ≡ tree

  module _ {tree : List ℕ} {l : List (Entry Condition)} (S : Source tree l) where
    abbrev last : ℕ
    last = length l - 1

    is_list : entries (fact_plan A goal S.capacity (ended_by S.until)) ≡ l
    is_list = sym (listed_entries S.until (fact_plan A goal S.capacity (ended_by S.until)) l S.listed)

    pub source_few : length l ≤ max_entries false
    source_few = omega (arith, S.few, ap length is_list, planned_fits (fact_plannable A goal) S.capacity (ended_by S.until))

    pub source_size : length tree ≡ tree_size false (length l)
    source_size = ap length (sym S.bytes) ∙ tree_length false l S.some

    abbrev mask : ℕ
    mask = (entry_in D l last).condition.present

    mask_within : T (within t.facts mask)
    mask_within =
        and_left (within t.facts mask) _
        (subst (λ (m : List (Entry Condition)). (i : ℕ) → i < length m → T (condition_within t.facts (entry_in D m i).condition)) is_list
        (entry_within A goal S.capacity (ended_by S.until) t.facts (within_facts table b t e S.capacity S.until)) last (omega (arith, S.some)))

    mask_shown : last_mask tree ≡ mask
    mask_shown =
        ap last_mask (sym S.bytes)
        ∙ last_shown l last (root D) (omega (arith, S.some)) (within_word t.facts mask (facts_few table b t e S.capacity S.until) mask_within)

    shown_within : T (within t.facts (last_mask tree))
    shown_within = rw mask_shown mask_within

    -- the plan for the last condition that the tree shows, as the start, gives the list, if only there is room
    replanned : (capacity : ℕ) → length l ≤ capacity → start_plan A goal capacity (last_mask tree) ≡ covered l
    replanned capacity fits =
        let some = S.some in
        let again = subst (λ (m : List (Entry Condition)). last < length m
        → start_plan A goal capacity (entry_in D m last).condition.present ≡ covered (prefix (entry_in D m) (suc last))) is_list
        (λ h. fact_replan A goal S.capacity (ended_by S.until) (nothing_absent table b t e S.capacity S.until none) capacity last h (omega arith)) (omega arith) in
        let all : suc last ≡ length l = omega arith in
        rw mask_shown (again ∙ ap covered (ap (prefix (entry_in D l)) all ∙ prefix_all l (root D)))

    -- a plan of such a list, whatever it tells
    pub shown_plan_is : {Told : Type 0} (capacity : Bool → ℕ) (size : ℕ) (tell : List (Entry Condition) → Told) → length l ≤ capacity false → length tree ≤ size
        → table_plan (Covers (last_mask tree)) t capacity size tell ≡ list_and_tree false (tell l) l
    unfolding table_plan
    shown_plan_is capacity size tell fits enough =
        let room : leb (length (tree_bytes false l)) size ≡ true = le-leb (length (tree_bytes false l)) size (omega (arith, ap length S.bytes)) in
        rw (none, replanned (capacity false) fits, room)

    abbrev told : Summary
    told = summary_of (tick_on table) t (last_mask tree) l

    plan_shown : plan_of table (last_mask tree) ≡ list_and_tree false told l
    plan_shown =
        let few = source_few in
        sym (plan_started table (state (last_mask tree)) max_entries max_tree_bytes t
        (start_passed table (state (last_mask tree)) t (sym e) (start_sound t.facts (state (last_mask tree)) (is_true _ (state_sound t.facts (last_mask tree) shown_within)) refl)))
        ∙ shown_plan_is max_entries max_tree_bytes (summary_of (tick_on table) t (last_mask tree)) few (omega (arith, source_size, few, S.some))

    source_planned : PlannedFor t table tree (last_mask tree) l
    source_planned =
        record {
          no_pair = none;
          summary = told;
          planned = ap (λ (P : Plan Summary). P.answer) plan_shown;
          tree_is = ap (λ (P : Plan Summary). P.tree) plan_shown ∙ S.bytes;
          list_is = ap (λ (P : Plan Summary). P.list) plan_shown;
        }

  -- ---- a plan that writes the bytes of a sound tree

  module _ (tree : List ℕ) (x : Tree) (sound : read_tree tree t.facts (length t.jobs) ≡ accepted x) where
    none_written : [] ≡ tree → ⊥
    none_written same = tree_some t.facts (length t.jobs) x (rw same sound)

    module _ {Told : Type 0} (capacity : Bool → ℕ) (until : Until) (size : ℕ) (tell : List (Entry Condition) → Told) where
      abbrev ending : Outcome Condition
      ending = fact_plan A goal (capacity false) (ended_by until)

      abbrev plan : Plan Told
      plan = plan_by false until size tell ending

      pub plan_is : table_plan until t capacity size tell ≡ plan
      unfolding table_plan
      plan_is = rw none

      pub wrote_source : capacity false ≤ max_entries false → Wrote plan tree → Source tree plan.list
      unfolding own_tree
      wrote_source few W =
          let w = whole_told false until size tell ending W.told W.planned in
          let bytes : tree_bytes false w.list ≡ tree = sym (ap (λ (P : Plan Told). P.tree) w.plan_is) ∙ W.tree_is in
          subst (Source tree) (sym (ap (λ (P : Plan Told). P.list) w.plan_is))
          (record { capacity = capacity false; few = few; until = until; listed = w.listed; some = nonempty w.list bytes; bytes = bytes })
        where
          nonempty : (l : List (Entry Condition)) → tree_bytes false l ≡ tree → 0 < length l
          nonempty [] q = absurd (none_written q)
          nonempty (y ∷ l) q = omega arith

      -- one that is refused writes none
      pub wrote_same : plan.tree ≡ tree → Wrote plan tree
      wrote_same same = by_answer plan.answer refl
        where
          by_answer : (c : Checked Told) → plan.answer ≡ c → Wrote plan tree
          by_answer (accepted told) a = record { told = told; planned = a; tree_is = same }
          by_answer (refused n p) a = absurd (none_written (sym (refused_tree (one_tree false size tell) false until ending n p a) ∙ same))

    -- ---- the plans of the library, whatever they were lent

    module _ (capacity : Bool → ℕ) (few : capacity false ≤ max_entries false) (size : ℕ) where
      -- for a start: a plan of the table, or none at all
      by_start : (start : Reading) (Q : Plan Summary → Type 0) → ((n p : ℕ) → Q (no_plan n p))
          → Q (plan capacity (Covers start.held) size (summary_of (tick_on table) t start.held)) → Q (plan_for table start capacity size)
      by_start start Q bad good = by (start_for table start) refl
        where
          by : (c : Checked Table) → start_for table start ≡ c → Q (plan_for table start capacity size)
          by (refused n p) q = subst Q (plan_refused table start capacity size n p (sym q)) (bad n p)
          by (accepted u) q =
              let same : u ≡ t = accepted_same (sym (start_table table start u q) ∙ e) in
              let passed : accepted t ≡ start_for table start = ap accepted (sym same) ∙ sym q in
              subst Q (sym (plan_is capacity (Covers start.held) size (summary_of (tick_on table) t start.held)) ∙ plan_started table start capacity size t passed) good

      plan_source : (start : Reading) → Wrote (plan_for table start capacity size) tree → Source tree (plan_for table start capacity size).list
      plan_source start =
          by_start start (λ P. Wrote P tree → Source tree P.list) (λ n p W. absurd (not_both W.planned))
          (wrote_source capacity (Covers start.held) size (summary_of (tick_on table) t start.held) few)

      plan_wrote : (start : Reading) → (plan_for table start capacity size).tree ≡ tree → Wrote (plan_for table start capacity size) tree
      plan_wrote start =
          by_start start (λ P. P.tree ≡ tree → Wrote P tree) (λ n p q. absurd (none_written q))
          (wrote_same capacity (Covers start.held) size (summary_of (tick_on table) t start.held))

      shift_source : Wrote (plan_shift table capacity size) tree → Source tree (plan_shift table capacity size).list
      shift_source =
          subst (λ (P : Plan Size). Wrote P tree → Source tree P.list) (sym (plan_is capacity Never size (size_of (pairs t))) ∙ shift_read table capacity size t (sym e))
          (wrote_source capacity Never size (size_of (pairs t)) few)

    -- ---- the list that is due

    list_is : list_of t table tree ≡ list_if (same_bytes (shown_plan table tree).tree tree) (shown_plan table tree).list
    unfolding list_of
    list_is = rw none

    pub source_list : (l : List (Entry Condition)) → Source tree l → list_of t table tree ≡ accepted l
    source_list l S =
        let p = source_planned S in
        list_is ∙ ap (λ (s : List ℕ). list_if (same_bytes s tree) (shown_plan table tree).list) p.tree_is
        ∙ ap (λ (c : Bool). list_if c (shown_plan table tree).list) (is_true (same_bytes tree tree) (bytes_same tree))
        ∙ ap accepted p.list_is

    planned_list : (s : ℕ) (l : List (Entry Condition)) → PlannedFor t table tree s l → list_of t table tree ≡ accepted l
    planned_list s l p =
        source_list l (subst (Source tree) p.list_is
        (plan_source max_entries (omega arith) max_tree_bytes (state s) (record { told = p.summary; planned = p.planned; tree_is = p.tree_is })))

    list_source : T (same_bytes (shown_plan table tree).tree tree) → Source tree (shown_plan table tree).list
    list_source same =
        plan_source max_entries (omega arith) max_tree_bytes (state (last_mask tree))
        (plan_wrote max_entries (omega arith) max_tree_bytes (state (last_mask tree)) (same_bytes_equal (shown_plan table tree).tree tree same))

    -- the list is there, with where it is from, or it is of another origin
    pub list_cases : (list_of t table tree ≡ refused 20 0) ⊎ ((l : List (Entry Condition)) × Source tree l × (list_of t table tree ≡ accepted l))
    list_cases = by_bytes (same_bytes (shown_plan table tree).tree tree) refl
      where
        by_bytes : (same : Bool) → same_bytes (shown_plan table tree).tree tree ≡ same
            → (list_of t table tree ≡ refused 20 0) ⊎ ((l : List (Entry Condition)) × Source tree l × (list_of t table tree ≡ accepted l))
        by_bytes true q = let S = list_source (holds _ q) in inr ((shown_plan table tree).list, S, source_list (shown_plan table tree).list S)
        by_bytes false q = inl (list_is ∙ ap (λ (c : Bool). list_if c (shown_plan table tree).list) q)

-- ---- the promise

-- Of a table that was read, and a tree that is sound under it:
module _ (table : List ℕ) (b : AreBytes table) (t : Table) (e : read_table table ≡ accepted t) (tree : List ℕ) (x : Tree)
    (sound : read_tree tree t.facts (length t.jobs) ≡ accepted x) where
  -- no start, and 20; or one, and the list that is planned for each
  record NoOrigin : Type 0 where
    refused_20 : list_of t table tree ≡ refused 20 0
    nowhere : (s : ℕ) (l : List (Entry Condition)) → PlannedFor t table tree s l → ⊥

  record Origin : Type 0 where
    list : List (Entry Condition)
    start : ℕ
    planned : PlannedFor t table tree start list
    every : (s : ℕ) (l : List (Entry Condition)) → PlannedFor t table tree s l → list_of t table tree ≡ accepted l

  pub paired_list : pairs t ≡ true → list_of t table tree ≡ refused 20 0
  unfolding list_of
  paired_list p = rw p

  paired_origin : pairs t ≡ true → NoOrigin
  paired_origin p = record { refused_20 = paired_list p; nowhere = λ s l q. T_not (pairs t) (fails _ q.no_pair) (holds _ p) }

  plain_origin : pairs t ≡ false → NoOrigin ⊎ Origin
  plain_origin none =
      let every = planned_list table b t e none tree x sound in
      ⊎_elim (λ other. inl (record { refused_20 = other; nowhere = λ s l p. not_both (sym other ∙ every s l p) }))
      (λ w. inr (record { list = w.0; start = last_mask tree; planned = source_planned table b t e none w.1; every = every }))
      (list_cases table b t e none tree x sound)

  judged : NoOrigin ⊎ Origin
  judged = by_pairs (pairs t) refl
    where
      by_pairs : (paired : Bool) → pairs t ≡ paired → NoOrigin ⊎ Origin
      by_pairs true p = inl (paired_origin p)
      by_pairs false p = plain_origin p

  -- what is due, in list tables with room for so many entries
  module _ (entries : ℕ) where
    abbrev answer : Checked (List (Entry Condition))
    answer = and_then (list_of t table tree) λ l. fitting entries l

    abbrev AcceptedIff : Type 0
    AcceptedIff = (l : List (Entry Condition)) → (answer ≡ accepted l) ↔ ((s : ℕ) × PlannedFor t table tree s l × (length l ≤ entries))

    abbrev ShortIff : Type 0
    ShortIff = (answer ≡ refused 10 0) ↔ ((s : ℕ) × (l : List (Entry Condition)) × PlannedFor t table tree s l × (entries < length l))

    abbrev OtherIff : Type 0
    OtherIff = (answer ≡ refused 20 0) ↔ ((s : ℕ) (l : List (Entry Condition)) → PlannedFor t table tree s l → ⊥)

    other_number : (p : ℕ) → ◌≡◌ {A = Checked (List (Entry Condition))} (refused 20 p) (refused 10 0) → ⊥
    other_number p q = let y : ◌≡◌ {A = ℕ} 20 10 = cc in omega arith

    by_none : NoOrigin → AcceptedIff × ShortIff × OtherIff
    by_none n =
        let is : answer ≡ refused 20 0 = ap (λ (c : Checked (List (Entry Condition))). and_then c λ l. fitting entries l) n.refused_20 in (
          (λ l. ((λ a. absurd (not_both (sym is ∙ a))), (λ w. absurd (n.nowhere w.0 l w.1)))),
          ((λ a. absurd (other_number 0 (sym is ∙ a))), (λ w. absurd (n.nowhere w.0 w.1 w.2))),
          ((λ a. n.nowhere), (λ w. is)),
        )

    by_origin : Origin → AcceptedIff × ShortIff × OtherIff
    by_origin o = by_room (leb (length o.list) entries) refl
      where
        of_start : (s : ℕ) (l : List (Entry Condition)) → PlannedFor t table tree s l → answer ≡ fitting entries l
        of_start s l p = ap (λ (c : Checked (List (Entry Condition))). and_then c λ l. fitting entries l) (o.every s l p)

        here : answer ≡ fitting entries o.list
        here = of_start o.start o.list o.planned

        fits : (l : List (Entry Condition)) → length l ≤ entries → fitting entries l ≡ accepted l
        fits l h = ap (λ (c : Bool). if c then accepted l else refused 10 0) (le-leb (length l) entries h)

        short : (l : List (Entry Condition)) → entries < length l → fitting entries l ≡ refused 10 0
        short l h = ap (λ (c : Bool). if c then accepted l else refused 10 0) (lt-leb (length l) entries h)

        with_room : (l : List (Entry Condition)) → ((s : ℕ) × PlannedFor t table tree s l × (length l ≤ entries)) → answer ≡ accepted l
        with_room l w = of_start w.0 l w.1 ∙ fits l w.2

        without_room : ((s : ℕ) × (l : List (Entry Condition)) × PlannedFor t table tree s l × (entries < length l)) → answer ≡ refused 10 0
        without_room w = of_start w.0 w.1 w.2 ∙ short w.1 w.3

        some_start : ((s : ℕ) (l : List (Entry Condition)) → PlannedFor t table tree s l → ⊥) → answer ≡ refused 20 0
        some_start none = absurd (none o.start o.list o.planned)

        by_room : (room : Bool) → leb (length o.list) entries ≡ room → AcceptedIff × ShortIff × OtherIff
        by_room true r =
            let is : answer ≡ accepted o.list = here ∙ fits o.list (leb-true _ _ r) in (
              (λ l. (
                (λ a. let same : o.list ≡ l = accepted_same (sym is ∙ a) in
                    (o.start, subst (PlannedFor t table tree o.start) same o.planned, rw same at (leb-true (length o.list) entries r))),
                with_room l,
              )),
              ((λ a. absurd (not_both (sym a ∙ is))), without_room),
              ((λ a. absurd (not_both (sym a ∙ is))), some_start),
            )
        by_room false r =
            let is : answer ≡ refused 10 0 = here ∙ short o.list (leb-false _ _ r) in (
              (λ l. ((λ a. absurd (not_both (sym is ∙ a))), with_room l)),
              ((λ a. (o.start, o.list, o.planned, leb-false (length o.list) entries r)), without_room),
              ((λ a. absurd (other_number 0 (sym a ∙ is))), some_start),
            )

    every_answer : Restores t table tree entries answer
    every_answer =
        let exactly = ⊎_elim by_none by_origin judged in
        record {
          accepted_iff = exactly.0;
          short_iff = exactly.1;
          other_iff = exactly.2;
          from_plan = λ none start lists size W.
              (last_mask tree, source_planned table b t e none (plan_source table b t e none tree x sound (room lists) (columns_few lists false) size start W));
          from_shift = λ none lists size W.
              (last_mask tree, source_planned table b t e none (shift_source table b t e none tree x sound (room lists) (columns_few lists false) size W));
        }

pub sound_told : (table tree : List ℕ) (t : Table) → sound_tree table tree ≡ accepted t
    → (read_table table ≡ accepted t) × (x : Tree) × (read_tree tree t.facts (length t.jobs) ≡ accepted x)
unfolding sound_tree
sound_told table tree t q =
    let w = accepted_then (read_table table) _ t q in
    let r = accepted_then (read_tree tree w.0.facts (length w.0.jobs)) _ t w.2 in
    let same : w.0 ≡ t = accepted_same r.2 in
    (w.1 ∙ ap accepted same, r.0, subst (λ (u : Table). read_tree tree u.facts (length u.jobs) ≡ accepted r.0) same r.1)

pub sound_recovered : (table tree : List ℕ) (entries : ℕ) (t : Table) → sound_tree table tree ≡ accepted t
    → recovered table tree entries ≡ (and_then (list_of t table tree) λ l. fitting entries l)
unfolding recovered
sound_recovered table tree entries t q = rw q

pub bad_recovered : (table tree : List ℕ) (entries n p : ℕ) → refused n p ≡ sound_tree table tree → recovered table tree entries ≡ refused n p
unfolding recovered
bad_recovered table tree entries n p q = rw (← q)

pub recovery_kept : (table : List ℕ) → AreBytes table → (tree : List ℕ) (before after : Columns) (r : (Result ℕ Refusal))
    → WritesBack (recovered table tree (room before false)) before after (answer_of r) → Recovers table tree before after r
recovery_kept table b tree before after r w =
    record {
      writes = w;
      restores = λ t q.
          let s = sound_told table tree t q in
          rw (sound_recovered table tree (room before false) t q) (every_answer table b t s.0 tree s.1 s.2 (room before false));
    }
