-- What the parts of the code leave comes to the plan that the definition gives.
-- Assumes nothing.
use Prim.Native.Nat.{ℕ, suc, ◌-◌, ◌≤◌, ◌<◌}
use Rattle.std.proofs.Common.{arith, ◌∙◌, take_all}
use Rattle.std.specs.Prelude.{◌≡◌, Bool, true, false, T, get_or}
use Rattle.std.proofs.Math.Path.{sym, ap}
use mathlib.Core.List.{List}
use Rattle.std.proofs.Math.ListN.{length}
use Rattle.base.specs.Bools.{holds}
use Rattle.masks.specs.Sets.{within}
use Rattle.refusal.specs.Checked.{Checked, accepted, refused, and_then}
use Rattle.refusal.specs.CheckedLaws.{accepted_same, accepted_then}
use Rattle.reading.specs.declared.Reading.{Reading}
use Rattle.reading.specs.Reading.{checked_start, state}
use Rattle.reading.specs.ReadingLaws.{sound_held, start_told}
use Rattle.numbers.specs.Numbers.{AreBytes}
use Rattle.conditions.specs.declared.Condition.{Condition}
use Rattle.conditions.specs.Condition.{plain}
use Rattle.table.specs.Table.{Table}
use Rattle.table.specs.Read.{read_table}
use Rattle.planning.specs.Domain.{Domain}
use Rattle.planning.specs.Columns.{max_entries}
use Rattle.planning.specs.Sequence.{Answer}
use Rattle.planning.specs.Listing.{path}
use Rattle.planning.proofs.PathLaws.{path_same, path_short}
use Rattle.planning.proofs.Theory.{first_unique, first_covered}
use Rattle.planning.specs.Expansion.{Entry, Outcome, covered, entries, entry_in, root, listing}
use Rattle.planning.specs.Facts.{fact_plan}
use Rattle.planning.proofs.FactLaws.{fact_plannable, fact_start_first}
use Rattle.planning.proofs.DemandLaws.{planned_fits, planned_good, planned_action, planned_path}
use Rattle.minutes.specs.Minutes.{nearest}
use Rattle.expander.specs.declared.Until.{Until}
use Rattle.expander.specs.declared.Until.TheVariants.{Covers}
use Rattle.expander.specs.Expands.{Columns, written, ended_by, room}
use Rattle.expander.specs.ExpandsLaws.{over_long, over_at}
use Rattle.builder.specs.declared.Size.{Size}
use Rattle.tree.specs.TickBytes.{tick_checked, tick_bytes}
use Rattle.runs.specs.Runs.{run_answer, tick_on}
use Rattle.builder.specs.Plan.{table_actions, table_domain, pairs, no_plan, table_plan, size_of, WritesPlan}
use Rattle.builder.specs.FinishLaws.{listed_entries}
use Rattle.builder.specs.PlanLaws.{covered_told, columns_few, whole_told, plan_list, plan_paired, writes_other, writes_refused}
use Rattle.builder.specs.WorksLaws.{list_works}
use Rattle.planner.specs.declared.Summary.{Summary}
use Rattle.planner.specs.Plan.{way_of, seconds_of, summary_of, start_for, plan_for}
use Rattle.planner.specs.Way.{linked, Linked, Traced}

-- ---- the checks before the plan

module _ (table : List ℕ) (start : Reading) where
  pub start_refused : (n p : ℕ) → refused n p ≡ read_table table → refused n p ≡ start_for table start
  unfolding start_for
  start_refused n p e = rw (← e)

  module _ (t : Table) (e : accepted t ≡ read_table table) where
    pub start_bad : {n p : ℕ} → refused n p ≡ checked_start t.facts start → refused n p ≡ start_for table start
    unfolding start_for
    start_bad s = rw (← e, ← s)

    pub start_passed : {r : Reading} → accepted r ≡ checked_start t.facts start → accepted t ≡ start_for table start
    unfolding start_for
    start_passed s = rw (← e, ← s)

  -- a start that passed leaves the table as it was read
  pub start_table : (t : Table) → start_for table start ≡ accepted t → read_table table ≡ accepted t
  unfolding start_for
  start_table t e =
      let w = accepted_then (read_table table) _ t e in
      w.1 ∙ (accepted_then (checked_start w.0.facts start) (λ r. accepted w.0) t w.2).2

  -- and is a state of it
  pub start_within : (t : Table) → start_for table start ≡ accepted t → T (within t.facts start.held)
  unfolding start_for
  start_within t e =
      let w = accepted_then (read_table table) _ t e in
      let c = accepted_then (checked_start w.0.facts start) (λ r. accepted w.0) t w.2 in
      let same : w.0 ≡ t = accepted_same c.2 in
      rw same at (sound_held w.0.facts start (holds _ (start_told w.0.facts start c.0 c.1)))

  module _ (capacity : Bool → ℕ) (size : ℕ) where
    pub plan_refused : (n p : ℕ) → refused n p ≡ start_for table start → no_plan n p ≡ plan_for table start capacity size
    unfolding plan_for
    plan_refused n p e = rw (← e)

    pub plan_started : (t : Table) → accepted t ≡ start_for table start
        → table_plan (Covers start.held) t capacity size (summary_of (tick_on table) t start.held) ≡ plan_for table start capacity size
    unfolding plan_for
    plan_started t e = rw (← e)

-- of a table's bytes, ticks and plans take what was read of them
module _ (a b : List ℕ) (e : read_table a ≡ read_table b) where
  ticks_same : tick_on a ≡ tick_on b
  unfolding tick_bytes
  ticks_same = ap {B = List ℕ → ℕ → Answer ℕ} (λ c tree s. run_answer (and_then c λ t. tick_checked t.facts (length t.jobs) tree 0 (state s))) e

  pub plan_same : (start : Reading) (capacity : Bool → ℕ) (size : ℕ) → plan_for a start capacity size ≡ plan_for b start capacity size
  unfolding plan_for start_for
  plan_same start capacity size = rw (ticks_same, e)

-- ---- the list in the columns

entries_most : (paired : Bool) → max_entries paired ≤ 4096
entries_most true = omega arith
entries_most false = omega arith

-- Of a table, room for so many entries, what ends its list, and the tables that the list is written to:
module _ (t : Table) (capacity : ℕ) (few : capacity ≤ max_entries (pairs t)) (until : Until) (before : Columns) where
  abbrev D : Domain ℕ Condition ℕ
  D = table_domain t

  abbrev list : List (Entry Condition)
  list = entries (fact_plan (table_actions t) (plain t.goal) capacity (ended_by until))

  abbrev after : Columns
  after = written (pairs t) list before

  action_is : (i : ℕ) → i < length list → get_or after.actions i 0 ≡ (entry_in D list i).action
  action_is i h = over_at list (λ x. x.action) before.actions i (root D) h

  parent_is : (i : ℕ) → i < length list → get_or after.parents i 0 ≡ (entry_in D list i).parent
  parent_is i h = over_at list (λ x. x.parent) before.parents i (root D) h

  depth_is : (i : ℕ) → i < length list → get_or after.depths i 0 ≡ (entry_in D list i).depth
  depth_is i h = over_at list (λ x. x.depth) before.depths i (root D) h

  links : Linked (length t.jobs) (length list) after.actions after.parents
  links =
      let P = fact_plannable (table_actions t) (plain t.goal) in
      record {
        few = omega (arith, few, entries_most (pairs t), planned_fits P capacity (ended_by until));
        actions_held = over_long list (λ x. x.action) before.actions;
        parents_held = over_long list (λ x. x.parent) before.parents;
        known = λ i h. rw (action_is (suc i) h) (planned_action P capacity (ended_by until) (suc i) (omega arith) h);
        earlier = λ i h. rw (parent_is (suc i) h) ((planned_good P capacity (ended_by until) (omega arith)).derived (suc i) (omega arith) h).parent_before;
      }

  way_is : (i : ℕ) → i < length list → path (listing D list) i ≡ path (linked after.actions after.parents) i
  way_is =
      path_same (linked after.actions after.parents) (length list) links.earlier (listing D list) (λ i h. sym (action_is (suc i) h))
      (λ i h. sym (parent_is (suc i) h))

  -- the way of the last entry can be followed in the columns
  pub traced : 1 ≤ length list → Traced (length t.jobs) (length list) after.actions after.parents after.depths
  traced some =
      let inside : length list - 1 < length list = omega arith in
      record {
        some = some;
        depths_held = over_long list (λ x. x.depth) before.depths;
        links = links;
        last_depth =
            depth_is (length list - 1) inside ∙ sym (planned_path (fact_plannable (table_actions t) (plain t.goal)) capacity (ended_by until) (length list - 1) inside)
            ∙ ap length (way_is (length list - 1) inside);
      }

  -- and it is the list's own
  pub way_held : 1 ≤ length list → path (linked after.actions after.parents) (length list - 1) ≡ path (listing D list) (length list - 1)
  way_held some = sym (way_is (length list - 1) (omega arith))

-- ---- from the size of a list and its tree to what a plan has to tell

-- Document 02, W5: the jobs that ticks name from a start are those from the entry that covers it along the parents to entry 0.
module _ (table : List ℕ) (b : AreBytes table) (t : Table) (e : read_table table ≡ accepted t) (start : ℕ) (is_state : T (within t.facts start))
    (capacity : ℕ) (few : capacity ≤ max_entries (pairs t)) where
  pub way_is_path : (l : List (Entry Condition)) → fact_plan (table_actions t) (plain t.goal) capacity (ended_by (Covers start)) ≡ covered l
      → way_of (tick_on table) t start l ≡ path (listing (table_domain t) l) (length l - 1)
  way_is_path l c =
      let D = table_domain t in
      let P = listing D l in
      let n = fact_start_first (table_actions t) (plain t.goal) capacity start l c in
      let f = (list_works table b t e capacity (Covers start) few l (omega (arith, n.1)) (ap entries c)).best start is_state
      (first_covered D P (length l) start n.0 n.2) in
      let last : f.entry ≡ length l - 1 = omega (arith, n.1, first_unique D P (length l) start f.entry n.0 f.first n.2) in
      f.names (length l) ∙ take_all (length l) (path P f.entry) (omega (arith, path_short P f.entry, n.1, last)) ∙ ap (path P) last

module _ (t : Table) (start : ℕ) (before after : Columns) (lent tree : List ℕ) (size : Size)
    (W : WritesPlan (table_plan (Covers start) t (room before) (length lent) (size_of (pairs t))) before after lent tree (accepted size)) where
  abbrev capacity : ℕ
  capacity = room before (pairs t)

  few : capacity ≤ max_entries (pairs t)
  few = columns_few before (pairs t)

  abbrev ending : Outcome Condition
  ending = fact_plan (table_actions t) (plain t.goal) capacity (ended_by (Covers start))

  -- the list that was built, that the start ended it, and that it has an entry
  record Found : Type 0 where
    ended : ending ≡ covered (entries ending)
    sized : size ≡ size_of (pairs t) (entries ending)
    some : 1 ≤ length (entries ending)
    tables : after ≡ written (pairs t) (entries ending) before

  found : Found
  unfolding table_plan
  found =
      let w = whole_told (pairs t) (Covers start) (length lent) (size_of (pairs t)) ending size (sym W.answer_and_tree.answer) in
      let l = listed_entries (Covers start) ending w.list w.listed in
      let c = covered_told start ending w.list w.listed in
      let n = fact_start_first (table_actions t) (plain t.goal) capacity start w.list c in
      record {
        ended = c ∙ ap covered l;
        sized = w.told_is ∙ ap (size_of (pairs t)) l;
        some = omega (arith, n.1, ap length l);
        tables = W.tables ∙ rw (
          plan_list (pairs t) (size_of (pairs t)) (Covers start) (length lent) ending,
          plan_paired (pairs t) (size_of (pairs t)) (Covers start) (length lent) ending,
        );
      }

  size_traced : Traced (length t.jobs) size.entries after.actions after.parents after.depths
  size_traced = rw (found.sized, found.tables) (traced t capacity few (Covers start) before found.some)

  -- the way in the columns, with its time
  abbrev way : List ℕ
  way = path (linked after.actions after.parents) (size.entries - 1)

  writes_summary : (table : List ℕ) → AreBytes table → read_table table ≡ accepted t → T (within t.facts start)
      → WritesPlan (table_plan (Covers start) t (room before) (length lent) (summary_of (tick_on table) t start)) before after lent tree
      (accepted (record { entries = size.entries; bytes = size.bytes; jobs = length way; minutes = nearest (seconds_of t.jobs way); paired = size.paired }))
  unfolding table_plan
  writes_summary table b e is_state =
      writes_other (pairs t) (Covers start) (length lent) (size_of (pairs t)) (summary_of (tick_on table) t start) ending before after lent tree size _ W
      (λ l s q. rw (way_found, s, q))
    where
      way_found : way ≡ way_of (tick_on table) t start (entries ending)
      way_found =
          rw (found.sized, found.tables) (way_held t capacity few (Covers start) before found.some)
          ∙ sym (way_is_path table b t e start is_state capacity few (entries ending) found.ended)

-- ---- what the parts leave is the plan

-- a table and a start that passed the checks, and what was built
module _ (table : List ℕ) (start : Reading) (t : Table) (e : accepted t ≡ start_for table start) (before after : Columns) (lent tree : List ℕ) (built : Checked Size)
    (W : WritesPlan (table_plan (Covers start.held) t (room before) (length lent) (size_of (pairs t))) before after lent tree built) where
  -- the list did not end as was asked, or its tree does not fit
  pub plan_stopped : (n p : ℕ) → built ≡ refused n p → WritesPlan (plan_for table start (room before) (length lent)) before after lent tree (refused n p)
  unfolding table_plan
  plan_stopped n p b =
      rw (← plan_started table start (room before) (length lent) t e)
      (writes_refused (pairs t) (Covers start.held) (length lent) (size_of (pairs t)) (summary_of (tick_on table) t start.held)
      (fact_plan (table_actions t) (plain t.goal) (room before (pairs t)) (ended_by (Covers start.held))) before after lent tree n p (rw b at W))

  -- the way of the last entry can be followed in the columns
  pub plan_traced : (size : Size) → built ≡ accepted size → Traced (length t.jobs) size.entries after.actions after.parents after.depths
  plan_traced size b = size_traced t start.held before after lent tree size (rw b at W)

  pub plan_built : AreBytes table → (size : Size) → built ≡ accepted size → (told : Summary)
      → (let way = path (linked after.actions after.parents) (size.entries - 1) in
      told ≡ record { entries = size.entries; bytes = size.bytes; jobs = length way; minutes = nearest (seconds_of t.jobs way); paired = size.paired })
      → WritesPlan (plan_for table start (room before) (length lent)) before after lent tree (accepted told)
  plan_built bytes size b told s =
      rw (← plan_started table start (room before) (length lent) t e, s)
      (writes_summary t start.held before after lent tree size (rw b at W) table bytes (start_table table start t (sym e))
      (start_within table start t (sym e)))
