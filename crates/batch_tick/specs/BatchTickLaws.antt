-- A batch from bytes is the batch under the table that was read: each tick of it is accepted, with the answer of the tree.
-- Assumes nothing.
use Rattle.std.specs.Prelude.{ℕ, suc, ◌+◌, ◌≤◌, ◌<◌, ◌≡◌, Bool, ◌&&◌, ◌||◌, eqb, leb, length, get_or}
use Rattle.std.proofs.Common.{zero-add, ap, ◌∙◌, subst, leb→le, ne_eqb}
use native.Mathlib.Omega.{arith}
use Rattle.std.proofs.Math.Path.{refl, sym}
use Rattle.std.proofs.Math.Bool.{true, false}
use mathlib.Core.List.{List, []}
use Rattle.std.proofs.Math.Dec.{T, ltb, ltb→lt}
use Rattle.base.specs.Bools.{holds, and_left, and_right}
use Rattle.base.specs.Lists.{prefix, length_prefix, get_d_prefix, map_prefix}
use Rattle.refusal.specs.Checked.{Checked, accepted, refused, checked_each}
use Rattle.refusal.specs.CheckedLaws.{not_both, accepted_same, accepted_then, accepted_if, each_told, each_passed}
use Rattle.numbers.specs.Numbers.{AreBytes}
use Rattle.reading.specs.declared.Reading.{Reading}
use Rattle.reading.specs.Reading.{sound, checked_at}
use Rattle.reading.specs.ReadingLaws.{checked_told}
use Rattle.conditions.specs.declared.Condition.{Condition}
use Rattle.conditions.specs.Condition.{condition_within}
use Rattle.table.specs.declared.Header.{Header}
use Rattle.table.specs.Table.{Table}
use Rattle.table.specs.Read.{read_table, header_of, headed}
use Rattle.table.proofs.ReadLaws.{headed_refused, headed_sound}
use Rattle.table.proofs.RoundTripLaws.{read_sound}
use Rattle.planning.specs.Expansion.{Entry}
use Rattle.planning.specs.Columns.{max_entries, entry_at}
use Rattle.tree.specs.declared.Status.{Status}
use Rattle.tree.specs.declared.Status.TheVariants.{Failure}
use Rattle.tree.specs.Tick.{tick_tree}
use Rattle.tree.specs.TickBytes.{tick_bytes, answered}
use Rattle.tree.specs.TickBytesLaws.{settled_bytes}
use Rattle.flat.specs.TreeBytes.{everyone}
use Rattle.flat.specs.FlatTree.{tree_of, Each, Fits}
use Rattle.flat.specs.FlatTreeLaws.{each_by_place, later_by_place}
use Rattle.flat.specs.ReadBackLaws.{tick_read}
use Rattle.batch_walk.specs.Batch.{reading_at, readings_of, AnswerRows, entries_read, Walks}
use Rattle.batch_checks.specs.Checks.{checked_readings, entry_fits, checked_entry, checked_list}
use Rattle.batch_tick.specs.BatchTick.{entries_lent, list_lent, vehicles_due, Lent, lent_to, tree_of_lent, BatchAnswer, checked_batch, batch_ticked, batch_under, WritesAnswers, SingleTick, TicksVehicles}

-- ---- lengths

module _ (conditions absences actions : ℕ) (paired : Bool) where
  pub entries_few : entries_lent paired conditions absences actions ≤ actions
  unfolding entries_lent
  entries_few = by_kind paired
    where
      by_kind : (p : Bool) → entries_lent p conditions absences actions ≤ actions
      by_kind false = omega arith
      by_kind true = omega arith

module _ (held unread statuses values : ℕ) where
  pub due_few : (vehicles_due held unread statuses values ≤ held) × (vehicles_due held unread statuses values ≤ unread) × (vehicles_due held unread statuses values ≤ statuses)
      × (vehicles_due held unread statuses values ≤ values)
  unfolding vehicles_due
  due_few = (omega arith, omega arith, omega arith, omega arith)

-- ---- a list that passed

module _ (paired : Bool) (facts jobs : ℕ) (l : List (Entry Condition)) (ys : List (Entry Condition)) (e : checked_list paired facts jobs l ≡ accepted ys) where
  abbrev is_sized : Bool
  is_sized = leb 1 (length l) && leb (length l) (max_entries paired)

  sized : (is_sized ≡ true) × (checked_each (checked_entry facts jobs) 0 l ≡ accepted ys)
  unfolding checked_list
  sized = accepted_if is_sized (checked_each (checked_entry facts jobs) 0 l) 13 0 ys e

  pub list_some : 1 ≤ length l
  list_some = leb→le 1 (length l) (and_left (leb 1 (length l)) (leb (length l) (max_entries paired)) (holds is_sized sized.0))

  list_few : length l ≤ max_entries paired
  list_few = leb→le (length l) (max_entries paired) (and_right (leb 1 (length l)) (leb (length l) (max_entries paired)) (holds is_sized sized.0))

  entry_passed : (i : ℕ) (d : Entry Condition) → i < length l → T (entry_fits facts jobs i (get_or l i d).condition (get_or l i d).action)
  entry_passed i d h =
      let (y, told) = each_told (checked_entry facts jobs) 0 l ys sized.1 i d h in
      let here : checked_entry facts jobs i (get_or l i d) ≡ accepted y = ap (λ (k : ℕ). checked_entry facts jobs k (get_or l i d)) (sym (zero-add i)) ∙ told in
      let fits = entry_fits facts jobs i (get_or l i d).condition (get_or l i d).action in
      holds fits (accepted_if fits (accepted (get_or l i d)) 15 i y here).0

  condition_passed : (i : ℕ) (d : Entry Condition) → i < length l → T (condition_within facts (get_or l i d).condition)
  unfolding entry_fits
  condition_passed i d h = and_left (condition_within facts (get_or l i d).condition) (eqb i 0 || ltb (get_or l i d).action jobs) (entry_passed i d h)

  action_passed : (i : ℕ) (d : Entry Condition) → suc i < length l → (get_or l (suc i) d).action < jobs
  unfolding entry_fits
  action_passed i d h =
      let both = and_right (condition_within facts (get_or l (suc i) d).condition) (eqb (suc i) 0 || ltb (get_or l (suc i) d).action jobs) (entry_passed (suc i) d h) in
      ltb→lt (get_or l (suc i) d).action jobs (subst (λ (b : Bool). T (b || ltb (get_or l (suc i) d).action jobs)) (ne_eqb (suc i) 0 (λ z. omega arith)) both)

  pub list_fits : facts ≤ 64 → (paired ≡ false → Each (λ x. x.condition.absent ≡ 0) l) → (d : Entry Condition) → Fits paired facts jobs l
  list_fits few plain d =
      record {
        some = list_some;
        few = list_few;
        facts_fit = few;
        conditions_fit = each_by_place _ l d (λ i h. condition_passed i d h);
        plain_fit = plain;
        actions_fit = later_by_place _ l d (λ i h. action_passed i d h);
      }

-- ---- under a table that was read

module _ (header : Header) (l : List (Entry Condition)) (rs : List Reading) (t : AnswerRows) where
  pub refused_reading : (n p : ℕ) → refused n p ≡ checked_readings header.facts rs → WritesAnswers (batch_under header l rs) t t (refused n p)
  unfolding batch_under
  refused_reading n p e = record { answer = rw (← e); written = rw (← e) }

  module _ (e : accepted rs ≡ checked_readings header.facts rs) where
    pub refused_list : (n p : ℕ) → refused n p ≡ checked_list header.paired header.facts header.jobs l → WritesAnswers (batch_under header l rs) t t (refused n p)
    unfolding batch_under
    refused_list n p f = record { answer = rw (← e, ← f); written = rw (← e, ← f) }

-- once all is judged, the answers of the walk stand
pub walked_answers : (header : Header) (l : List (Entry Condition)) (rs : List Reading) {before after : AnswerRows} {read : ℕ} → accepted rs ≡ checked_readings header.facts rs
    → accepted l ≡ checked_list header.paired header.facts header.jobs l → Walks l rs before after read → WritesAnswers (batch_under header l rs) before after (accepted read)
unfolding batch_under
walked_answers header l rs e f w = record { answer = rw (← e, ← f) (ap accepted w.count); written = rw (← e, ← f) (w.answers header.paired) }

-- ---- from bytes

module _ (table : List ℕ) (bytes : AreBytes table) (t : Table) (read : read_table table ≡ accepted t) (conditions absences actions held unread : List ℕ) (n : ℕ) where
  abbrev x : Lent
  x = lent_to t conditions absences actions

  abbrev tree : List ℕ
  tree = tree_of_lent x

  abbrev vehicle : ℕ → Reading
  vehicle v = reading_at held unread v

  abbrev readings : List Reading
  readings = readings_of held unread n

  -- the answer of vehicle v, by the tree
  abbrev status : ℕ → Status
  status v = (tick_tree (vehicle v) (tree_of everyone x.paired x.list)).answer

  first : Entry Condition
  first = entry_at conditions absences actions [] [] 0

  -- without a 0x21 no second masks are lent
  plain_list : x.paired ≡ false → Each (λ y. y.condition.absent ≡ 0) x.list
  plain_list e = subst (λ (p : Bool). Each (λ y. y.condition.absent ≡ 0) (list_lent p conditions absences actions)) (sym e) without
    where
      entries : ℕ
      entries = entries_lent false (length conditions) (length absences) (length actions)

      entry : ℕ → Entry Condition
      entry i = entry_at conditions [] actions [] [] i

      without : Each (λ y. y.condition.absent ≡ 0) (list_lent false conditions absences actions)
      without = each_by_place (λ y. y.condition.absent ≡ 0) (prefix entry entries) (entry 0) (λ i h. ap (λ (y : Entry Condition). y.condition.absent) (get_d_prefix entry entries i (entry 0) (omega (arith, length_prefix entry entries, h))))

  module _ (ys : List Reading) (r : checked_readings t.facts readings ≡ accepted ys) (zs : List (Entry Condition))
      (c : checked_list x.paired t.facts (length t.jobs) x.list ≡ accepted zs) where
    fits : Fits x.paired t.facts (length t.jobs) x.list
    fits =
        list_fits x.paired t.facts (length t.jobs) x.list zs c
        (leb→le t.facts 64 (and_right (leb 1 t.facts) (leb t.facts 64) (holds _ (read_sound table bytes t read).facts_range_held))) plain_list first

    reading_sound : (v : ℕ) → v < n → sound t.facts (vehicle v) ≡ true
    reading_sound v h =
        let (s, told) = each_told (checked_at t.facts) 0 readings ys r v (vehicle 0) (omega (arith, length_prefix vehicle n)) in
        let here : get_or readings v (vehicle 0) ≡ vehicle v = get_d_prefix vehicle n v (vehicle 0) h in
        (checked_told t.facts (vehicle v) (0 + v) s (rw here at told)).0

    tick_is : (v : ℕ) → v < n → tick_bytes table tree (vehicle v) ≡ accepted (tick_tree (vehicle v) (tree_of everyone x.paired x.list))
    tick_is v h = tick_read everyone x.paired table t read x.list fits (vehicle v) (reading_sound v h)

    tick_answer : (v : ℕ) → v < n → answered (tick_bytes table tree (vehicle v)) ≡ accepted (status v)
    tick_answer v h = ap answered (tick_is v h)

    pub all_ticked : checked_each (λ v r. answered (tick_bytes table tree r)) 0 readings ≡ accepted (prefix status n)
    all_ticked = each_passed (λ v r. answered (tick_bytes table tree r)) vehicle status n (λ v h. tick_answer v h)

    -- so the call ends as it does under the table
    pub batch_ticked_is : batch_ticked table conditions absences actions readings ≡ accepted (record { statuses = prefix status n; read = entries_read x.list readings })
    unfolding batch_ticked checked_batch
    batch_ticked_is = rw (read, r, c, all_ticked)

    under_ticked : batch_under (header_of t) x.list readings ≡ accepted (record { statuses = prefix status n; read = entries_read x.list readings })
    unfolding batch_under
    under_ticked = rw (r, c, map_prefix vehicle (λ r. (tick_tree r (tree_of everyone x.paired x.list)).answer) n)

    single_tick : (v : ℕ) → v < n → SingleTick table tree (vehicle v) (get_or (prefix status n) v Failure)
    single_tick v h =
        subst (SingleTick table tree (vehicle v)) (sym (get_d_prefix status n v Failure h)) (record {
          same = tick_answer v h;
          settled = λ u. record {
            leaf = (tick_tree (vehicle v) (tree_of everyone x.paired x.list)).leaf;
            here = tick_is v h;
            everywhere = settled_bytes table tree (vehicle v) (tick_tree (vehicle v) (tree_of everyone x.paired x.list)) (tick_is v h) u;
          };
        })

  batch_under_is : batch_ticked table conditions absences actions readings ≡ batch_under (header_of t) x.list readings
  unfolding batch_ticked checked_batch batch_under
  batch_under_is = by_readings (checked_readings t.facts readings) refl
    where
      by_list : (ys : List Reading) → checked_readings t.facts readings ≡ accepted ys
          → (c : Checked (List (Entry Condition))) → checked_list x.paired t.facts (length t.jobs) x.list ≡ c
          → batch_ticked table conditions absences actions readings ≡ batch_under (header_of t) x.list readings
      by_list ys r (accepted zs) c = batch_ticked_is ys r zs c ∙ sym (under_ticked ys r zs c)
      by_list ys r (refused k p) c = rw (read, r, c)

      by_readings : (r : Checked (List Reading)) → checked_readings t.facts readings ≡ r
          → batch_ticked table conditions absences actions readings ≡ batch_under (header_of t) x.list readings
      by_readings (accepted ys) r = by_list ys r (checked_list x.paired t.facts (length t.jobs) x.list) refl
      by_readings (refused k p) r = rw (read, r)

  ticked : (y : Lent) → checked_batch table conditions absences actions readings ≡ accepted y
      → (b : BatchAnswer) × (batch_ticked table conditions absences actions readings ≡ accepted b)
      × ((v : ℕ) → v < n → SingleTick table (tree_of_lent y) (vehicle v) (get_or b.statuses v Failure))
  unfolding checked_batch
  ticked y e =
      let (ys, r, rest) = accepted_then (checked_readings t.facts readings) _ y (rw read at e) in
      let (zs, c, same) = accepted_then (checked_list x.paired t.facts (length t.jobs) x.list) _ y rest in
      (_, batch_ticked_is ys r zs c, λ v h. rw (← accepted_same same) (single_tick ys r zs c v h))

module _ (table conditions absences actions held unread : List ℕ) (n : ℕ) where
  pub ticks_refused : (number place : ℕ) → refused number place ≡ headed (read_table table) → (t : AnswerRows)
      → TicksVehicles table conditions absences actions held unread n t t (refused number place)
  unfolding batch_ticked checked_batch
  ticks_refused number place e t =
      let r = headed_refused (read_table table) e in
      record { writes = record { answer = rw (← r); written = rw (← r) }; ticked = λ x f. absurd (not_both (rw (← r) at f)) }

  pub ticks_read : AreBytes table → (h : Header) → accepted h ≡ headed (read_table table) → {before after : AnswerRows} {told : Checked ℕ}
      → WritesAnswers (batch_under h (list_lent h.paired conditions absences actions) (readings_of held unread n)) before after told
      → TicksVehicles table conditions absences actions held unread n before after told
  ticks_read bytes h e {before} {after} {told} writes =
      let (t, read, same) = headed_sound (read_table table) e in
      record {
        writes = rw (batch_under_is table bytes t (sym read) conditions absences actions held unread n)
            (subst (λ (k : Header). WritesAnswers (batch_under k (list_lent k.paired conditions absences actions) (readings_of held unread n)) before after told) (sym same) writes);
        ticked = ticked table bytes t (sym read) conditions absences actions held unread n;
      }
