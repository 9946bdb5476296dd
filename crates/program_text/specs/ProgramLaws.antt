-- From the planner's answer and tables to the program's text.
-- Assumes nothing.
use Rattle.std.proofs.Common.{eqb-true, leb-true, arith, ◌∙◌}
use Rattle.std.proofs.lemmas.Bool.{eqb-false}
use Rattle.std.specs.Prelude.{◌≡◌, refl, Bool, ◌&&◌, List, ℕ, ◌≤◌, ◌<◌, leb, get_or, if◌then◌else◌, Err, Ok, Result}
use Rattle.std.proofs.Math.Path.{sym, ap}
use Rattle.std.proofs.Math.Bool.{true, false}
use Rattle.std.proofs.Math.Dec.{eqb}
use Rattle.std.proofs.Math.ListN.{length}
use Rattle.base.specs.Lists.{get_d_prefix}
use Rattle.masks.specs.Sets.{intersects, within}
use Rattle.refusal.specs.Checked.{Checked, accepted, refused, and_then, answer_of}
use Rattle.refusal.specs.CheckedLaws.{not_both}
use Rattle.reading.specs.declared.Reading.{Reading}
use Rattle.reading.specs.Reading.{sound, checked_start}
use Rattle.reading.specs.ReadingLaws.{start_unsound}
use Rattle.table.specs.Table.{Table}
use Rattle.table.specs.Read.{read_table}
use Rattle.conditions.specs.declared.Condition.{Condition}
use Rattle.conditions.specs.Condition.{plain, condition_at}
use Rattle.planning.specs.Expansion.{Entry, Outcome}
use Rattle.planning.specs.Facts.{fact_plan}
use Rattle.planning.proofs.FactLaws.{fact_plannable}
use Rattle.planning.proofs.DemandLaws.{planned_fits}
use Rattle.plan_text.specs.Text.{condition_text, entry_text, entries_text, plan_text}
use Rattle.plan_text.specs.Writes.{Wrote, listed, with_absences}
use Rattle.plan_text.specs.WriteLaws.{entries_same}
use Rattle.plan_text.specs.TextLaws.{wrote_whole}
use Rattle.expander.specs.declared.Until.{Until}
use Rattle.expander.specs.declared.Until.TheVariants.{Covers}
use Rattle.expander.specs.Expands.{Columns, capacity_of, room, held, written, ended_by}
use Rattle.expander.specs.ExpandsLaws.{capacity_most, entry_of, held_length, over_long, over_at}
use Rattle.planner.specs.declared.Summary.{Summary}
use Rattle.planner.specs.Promise.{Plans}
use Rattle.builder.specs.Plan.{Plan, no_plan, plan_by, table_plan, after_checks, table_actions, pairs}
use Rattle.builder.specs.PlanLaws.{plan_list, plan_paired, whole_told}
use Rattle.runs.specs.Runs.{tick_on}
use Rattle.planner.specs.Plan.{summary_of, start_for, plan_for}
use Rattle.program_text.specs.Shows.{Shows, PlannedFrom, shown_in, entries_in, planned_text}
use Rattle.program_text.specs.Program.{answer_text, text_of, program_text, lent_entries, capacity, tree_room, start_size, start_of, files_plan}
use Rattle.refusal.specs.declared.Refusal.{Refusal}

-- ---- a start that no table takes

pub shared_unsound : (r : Reading) → intersects r.held r.unread ≡ true → (facts : ℕ) → sound facts r ≡ false
unfolding sound
shared_unsound r e facts = rw e (by (within facts r.held) (within facts r.unread))
  where
    by : (a b : Bool) → (a && (b && false)) ≡ false
    by true true = refl
    by true false = refl
    by false b = refl

plan_unsound : (table : List ℕ) (r : Reading) → ((facts : ℕ) → sound facts r ≡ false) → (capacity : Bool → ℕ) (room : ℕ)
    → plan_for table r capacity room ≡ after_checks (read_table table) (λ t. no_plan 8 0)
unfolding plan_for start_for
plan_unsound table r h capacity room = by (read_table table)
  where
    by : (c : Checked Table)
        → after_checks (and_then c λ t. and_then (checked_start t.facts r) λ s. accepted t)
        (λ t. table_plan (Covers r.held) t capacity room (summary_of (tick_on table) t r.held))
        ≡ after_checks c (λ t. no_plan 8 0)
    by (accepted t) = rw (← start_unsound t.facts r (h t.facts))
    by (refused n p) = refl

-- ---- a plan that is built: how many entries it lists

pub record ListOf (P : Plan Summary) (s : Summary) (capacity : Bool → ℕ) : Type 0 where
  pub size : s.entries ≡ length P.list
  pub kind : s.paired ≡ P.paired
  pub fits : length P.list ≤ capacity P.paired

module _ (capacity : Bool → ℕ) (room : ℕ) (table : List ℕ) (start : Reading) where
  abbrev until : Until
  until = Covers start.held

  abbrev tell : Table → List (Entry Condition) → Summary
  tell t = summary_of (tick_on table) t start.held

  abbrev outcome : Table → Outcome Condition
  outcome t = fact_plan (table_actions t) (plain t.goal) (capacity (pairs t)) (ended_by until)

  pub plan_lists : (s : Summary) → (plan_for table start capacity room).answer ≡ accepted s → ListOf (plan_for table start capacity room) s capacity
  unfolding plan_for table_plan
  plan_lists s = by (start_for table start)
    where
      by : (c : Checked Table) → (let P = after_checks c (λ t. plan_by (pairs t) until room (tell t) (outcome t)) in P.answer ≡ accepted s → ListOf P s capacity)
      by (refused n p) e = absurd (not_both e)
      by (accepted t) e =
          let w = whole_told (pairs t) until room (tell t) (outcome t) s e in
          let listed = plan_list (pairs t) (tell t) until room (outcome t) in
          let kind = plan_paired (pairs t) (tell t) until room (outcome t) in
          record {
            size = ap (λ (x : Summary). x.entries) w.told_is ∙ sym (ap (λ (P : Plan Summary). length P.list) w.plan_is);
            kind = ap (λ (x : Summary). x.paired) w.told_is ∙ sym kind;
            fits = rw (listed, kind) (planned_fits (fact_plannable (table_actions t) (plain t.goal)) (capacity (pairs t)) (ended_by until));
          }

-- ---- the text, whole

pub shown_whole : {text a b : List ℕ} {r : ℕ} → Wrote text a b r → length text ≤ length a → length b ≡ length a → Shows text b r
shown_whole {text} {a} {b} {r} w h k =
    let e = wrote_whole w h in
    record { within = omega (arith, e.0); counted = e.0 ∙ ap length (sym e.1); shows = e.1 }

-- ---- the text of a list that was written to the tables

-- what `get_or` gives past the last entry
none : Entry Condition
none = record { condition = plain 0; action = 0; parent = 0; depth = 0 }

-- of a list that is not paired, no second mask is looked at
module _ (paired : Bool) (l : List (Entry Condition)) (t : Columns) where
  abbrev tables : Columns
  tables = written paired l t

  condition_shown : (k : ℕ) → k < length l
      → condition_text paired (condition_at tables.conditions tables.absences k) ≡ condition_text paired (get_or l k none).condition
  condition_shown k h = by paired
    where
      by : (p : Bool) → let w = written p l t in condition_text p (condition_at w.conditions w.absences k) ≡ condition_text p (get_or l k none).condition
      by true = rw (over_at l (λ x. x.condition.present) t.conditions k none h, over_at l (λ x. x.condition.absent) t.absences k none h)
      by false = rw (over_at l (λ x. x.condition.present) t.conditions k none h)

  pub text_written : entries_text paired 0 (held tables (length l)) ≡ entries_text paired 0 l
  text_written =
      entries_same paired none (held tables (length l)) l (held_length tables (length l))
      (λ k h i.
      let inside : k < length l = omega (arith, held_length tables (length l)) in
      ap (entry_text paired i) (get_d_prefix (entry_of tables) (length l) k none inside)
      ∙ rw (
        condition_shown k inside,
        over_at l (λ x. x.action) t.actions k none inside,
        over_at l (λ x. x.parent) t.parents k none inside,
        over_at l (λ x. x.depth) t.depths k none inside,
      )) 0

-- ---- from the plan to the text of the bytes that were read

-- the list tables and the tree, as the program lends them
pub record Roomy (before : Columns) (lent : List ℕ) : Type 0 where
  pub conditions_lent : leb lent_entries (length before.conditions) ≡ true
  pub absences_lent : leb lent_entries (length before.absences) ≡ true
  pub actions_lent : leb lent_entries (length before.actions) ≡ true
  pub parents_lent : leb lent_entries (length before.parents) ≡ true
  pub depths_lent : leb lent_entries (length before.depths) ≡ true
  pub tree_lent : length lent ≡ tree_room

module _ (table start : List ℕ) (reading : Reading) {before : Columns} {lent : List ℕ} (given : PlannedFrom start reading) (k : Roomy before lent) where
  roomy : (lent_entries ≤ length before.conditions) × (lent_entries ≤ length before.absences) × (lent_entries ≤ length before.actions)
      × (lent_entries ≤ length before.parents) × (lent_entries ≤ length before.depths)
  roomy =
      (leb-true _ _ k.conditions_lent, leb-true _ _ k.absences_lent, leb-true _ _ k.actions_lent, leb-true _ _ k.parents_lent, leb-true _ _ k.depths_lent)

  room_is : room before ≡ capacity
  unfolding capacity_of
  room_is i paired = by paired i
    where
      by : (paired : Bool) → room before paired ≡ capacity paired
      by true = omega (arith, roomy)
      by false = omega (arith, roomy)

  -- the plan that is made is the one that these bytes ask for
  abbrev made : Plan Summary
  made = plan_for table reading (room before) (length lent)

  made_is : made ≡ files_plan table start
  unfolding files_plan
  made_is = rw (room_is, k.tree_lent) (by (eqb (length start) start_size) refl)
    where
      by : (b : Bool) → eqb (length start) start_size ≡ b
          → plan_for table reading capacity tree_room ≡ (if b then plan_for table (start_of start) capacity tree_room else after_checks (read_table table) (λ t. no_plan 8 0))
      by true e = ap (λ (r : Reading). plan_for table r capacity tree_room) (given.of_start (eqb-true (length start) start_size e))
      by false e = plan_unsound table reading (given.of_other (eqb-false (length start) start_size e)) capacity tree_room

  text_is : (a : Checked Summary) → a ≡ made.answer → answer_text a made.list ≡ program_text table start
  unfolding program_text
  text_is a e = ap (λ (x : Checked Summary). answer_text x made.list) e ∙ ap text_of made_is

  module _ {after : Columns} {tree : List ℕ} (s : Summary) (p : Plans table reading before after lent tree (Ok s)) where
    answered : accepted s ≡ made.answer
    answered = p.writes.answer_and_tree.answer

    sized : ListOf made s (room before)
    sized = plan_lists (room before) (length lent) table reading s (sym answered)

    few : s.entries ≤ lent_entries
    few =
        let b = before in
        let most = capacity_most (length b.conditions) (length b.absences) (length b.actions) (length b.parents) (length b.depths) made.paired in
        omega (arith, sized.size, sized.fits, most)

    -- the tables with the list at their fronts
    abbrev lists : Columns
    lists = written s.paired made.list before

    tables_are : after ≡ lists
    tables_are = p.writes.tables ∙ ap (λ (b : Bool). written b made.list before) (sym sized.kind)

    all_listed : listed s.entries lists.conditions lists.actions lists.parents lists.depths ≡ length made.list
    all_listed =
        omega (
          arith,
          sized.size,
          over_long made.list (λ x. x.condition.present) before.conditions,
          over_long made.list (λ x. x.action) before.actions,
          over_long made.list (λ x. x.parent) before.parents,
          over_long made.list (λ x. x.depth) before.depths,
        )

    all_shown : shown_in s lists ≡ length made.list
    all_shown = ap (λ (n : ℕ). with_absences s.paired n (length lists.absences)) all_listed ∙ by s.paired
      where
        by : (b : Bool) → with_absences b (length made.list) (length (written b made.list before).absences) ≡ length made.list
        by true = omega (arith, over_long made.list (λ x. x.condition.absent) before.absences)
        by false = refl

    list_shown : planned_text (Ok s) after ≡ answer_text (accepted s) made.list
    unfolding plan_text
    list_shown = rw (tables_are, all_shown, text_written s.paired made.list before)

  -- what a plan's answer tells of the text that is due
  pub record Told (after : Columns) (r : (Result Summary Refusal)) : Type 0 where
    pub entries : entries_in r ≤ lent_entries
    pub is_text : planned_text r after ≡ program_text table start

  pub planned_told : {after : Columns} {tree : List ℕ} (r : (Result Summary Refusal)) → Plans table reading before after lent tree r → Told after r
  planned_told (Err x) p = record { entries = omega arith; is_text = text_is (answer_of (Err x)) p.writes.answer_and_tree.answer }
  planned_told (Ok s) p = record { entries = few s p; is_text = list_shown s p ∙ text_is (accepted s) (answered s p) }
