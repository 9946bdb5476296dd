-- What a caller of the expansion learns: the tables hold the list of the plan, and the list has the properties that the theory of plans shows.
-- Assumes nothing.
use Rattle.std.specs.Prelude.{◌≡◌, refl, Bool, not, ◌↔◌, List, [], map, ℕ, suc, min, ◌-◌, ◌^◌, ◌≤◌, ◌<◌, T, length, get_or, take, drop, if◌then◌else◌, None}
use Rattle.std.specs.Int.Bits.{bit_and}
use Rattle.std.proofs.Common.{sym, ap, ◌∙◌, subst, T_not, length-append}
use Rattle.std.proofs.Math.Bool.{true, false}
use native.Mathlib.Omega.{arith}
use Rattle.std.proofs.lemmas.List.{length-map}
use Rattle.std.proofs.lemmas.Nat.{and_mask}
use Rattle.std.proofs.Math.Decide.{dec_le}
use Rattle.std.proofs.Math.Path.{fun_ext}
use Rattle.std.proofs.Math.ListN.{get_or-append, get_or-map, get_or-eq_default}
use Rattle.std.proofs.Math.Seq.{take-length}
use Rattle.base.specs.Lists.{get_d_inside}
use Rattle.refusal.specs.Checked.{accepted, and_then}
use Rattle.conditions.specs.declared.Action.{Action}
use Rattle.conditions.specs.declared.Condition.{Condition}
use Rattle.conditions.specs.Condition.{condition_at, condition_within}
use Rattle.conditions.specs.Search.{newest_weaker}
use Rattle.conditions.specs.SearchLaws.{nowhere_none, none_nowhere}
use Rattle.planning.specs.Domain.{Domain}
use Rattle.planning.specs.Sequence.{Reaches}
use Rattle.planning.specs.Listing.{Derived}
use Rattle.planning.specs.Expansion.{Entry, Outcome, exhausted, covered, full, entries, entry_in, listing, listed}
use Rattle.planning.proofs.SearchLaws.{some_listed, none_listed}
use Rattle.planning.specs.Progress.{Sound}
use Rattle.planning.proofs.ExpansionLaws.{expand_sound}
use Rattle.planning.specs.Demand.{FirstIn}
use Rattle.planning.proofs.DemandLaws.{planned_fits, planned_good, planned_action, planned_depth, covered_nonempty, exhausted_nonempty}
use Rattle.planning.specs.Columns.{entry_at}
use Rattle.planning.proofs.ColumnLaws.{length_prefix, get_d_prefix}
use Rattle.planning.specs.Facts.{Actions, unit_domain, Separate, WithinFacts}
use Rattle.planning.proofs.FactLaws.{fact_plannable, fact_start_first, fact_no_way, fact_same, entry_within}
use Rattle.expander.specs.declared.Expanded.{Expanded}
use Rattle.expander.specs.declared.Expanded.TheVariants as X
use Rattle.expander.specs.declared.Until.{Until}
use Rattle.expander.specs.declared.Until.TheVariants as U
use Rattle.expander.specs.Expands.{no_action, actions_in, if_paired, action_for, actions_for, Unasked, count_of, actions_of}
use Rattle.expander.specs.Expands.{Columns, capacity_of, room, held, over, ended_by, plan_in, expanded_of, listed_by, outcome_of, Expands}

-- ---- the facts that are needed absent

same_actions : {n : ℕ} {f g : ℕ → Action} → ((a : ℕ) → f a ≡ g a) → ◌≡◌ {A = Actions} (record { count = n; action = f }) (record { count = n; action = g })
same_actions h = rw (fun_ext h)

-- a mask has none but the 64 facts
pub every_fact : (a : ℕ) → a < 2 ^ 64 → bit_and a (2 ^ 64 - 1) ≡ a
every_fact a h = omega (arith, and_mask a 64)

-- a list that is not paired takes no fact to be absent
pub for_unasked : (paired : Bool) (actions : List Action) → Unasked paired (actions_for paired actions)
for_unasked true actions p a h = absurd p
for_unasked false actions p a h = refl

plain_action : (x : Action) → x.absent ≡ 0 → action_for false x ≡ x
plain_action x z = rw (sym z)

-- where no action needs one absent, it takes the actions as they are
pub for_all : (paired : Bool) (actions : List Action) → length actions ≤ 128 → Unasked paired (actions_in actions)
    → actions_for paired actions ≡ actions_in actions
for_all true actions few u = refl
for_all false actions few u = same_actions (λ a. plain_action (get_or actions a no_action) (none a))
  where
    none : (a : ℕ) → (get_or actions a no_action).absent ≡ 0
    none a = elim (dec_le (length actions) a) [
      | yes past ↦ rw (get_or-eq_default actions no_action past)
      | no l ↦ u tt a (omega (arith, few))
    ]

-- so it takes those that count, however many the list has
pub counted_unasked : (actions : List Action) → Unasked false (actions_in actions) → (a : ℕ) → a < min (length actions) 128
    → action_for false (get_or actions a no_action) ≡ get_or actions a no_action
counted_unasked actions u a h = plain_action (get_or actions a no_action) (u tt a h)

-- and an expansion is the same, since those past the 128 do not count
pub expands_unasked : (paired : Bool) (actions : List Action) → Unasked paired (actions_in actions)
    → {goal : Condition} {until : Until} {before after : Columns} {r : Expanded} → Expands paired (actions_for paired actions) goal until before after r
    → Expands paired (actions_in actions) goal until before after r
expands_unasked true actions u E = E
expands_unasked false actions u {goal} {until} {before} E =
    let e = fact_same (counted_unasked actions u) goal (room before false) (ended_by until) in
    record { answer = rw e at E.answer; outcome = rw e at E.outcome; tables = rw e at E.tables }

-- ---- the number of actions in rows of masks

module _ (needs adds deletes : ℕ) where
  pub count_needs : count_of needs adds deletes ≤ needs
  unfolding count_of
  count_needs = omega arith

  pub count_adds : count_of needs adds deletes ≤ adds
  unfolding count_of
  count_adds = omega arith

  pub count_deletes : count_of needs adds deletes ≤ deletes
  unfolding count_of
  count_deletes = omega arith

  pub count_most : count_of needs adds deletes ≤ 128
  unfolding count_of
  count_most = omega arith

-- rows of one length have an action each
pub count_rows : (n : ℕ) → n ≤ 128 → count_of n n n ≡ n
unfolding count_of
count_rows n h = omega arith

-- The rows of the actions' masks, of which that of the absent facts is empty where the list is not paired, hold the actions as the list takes them.
module _ (actions : List Action) where
  abbrev rows : List ℕ → Actions
  rows absent = actions_of (map (λ x. x.needs) actions) absent (map (λ x. x.adds) actions) (map (λ x. x.deletes) actions)

  rows_count : count_of (length (map (λ x. x.needs) actions)) (length (map (λ x. x.adds) actions)) (length (map (λ x. x.deletes) actions)) ≡ min (length actions) 128
  unfolding count_of
  rows_count = omega (arith, length-map actions (λ x. x.needs), length-map actions (λ x. x.adds), length-map actions (λ x. x.deletes))

  pub rows_for : (paired : Bool) → rows (if paired then map (λ x. x.absent) actions else []) ≡ actions_for paired actions
  rows_for true =
      rw rows_count (same_actions (λ a. rw (
        get_or-map (λ x. x.needs) actions a no_action,
        get_or-map (λ x. x.absent) actions a no_action,
        get_or-map (λ x. x.adds) actions a no_action,
        get_or-map (λ x. x.deletes) actions a no_action,
      )))
  rows_for false =
      rw rows_count (same_actions (λ a. rw (
        get_or-map (λ x. x.needs) actions a no_action,
        get_or-map (λ x. x.adds) actions a no_action,
        get_or-map (λ x. x.deletes) actions a no_action,
      )))

-- ---- the capacity

module _ (conditions absences actions parents depths : ℕ) where
  pub capacity_conditions : (paired : Bool) → capacity_of paired conditions absences actions parents depths ≤ conditions
  unfolding capacity_of
  capacity_conditions true = omega arith
  capacity_conditions false = omega arith

  -- the second masks of a paired list
  pub capacity_absences : (paired : Bool) → T paired → capacity_of paired conditions absences actions parents depths ≤ absences
  unfolding capacity_of
  capacity_absences true t = omega arith
  capacity_absences false t = absurd t

  pub capacity_actions : (paired : Bool) → capacity_of paired conditions absences actions parents depths ≤ actions
  unfolding capacity_of
  capacity_actions true = omega arith
  capacity_actions false = omega arith

  pub capacity_parents : (paired : Bool) → capacity_of paired conditions absences actions parents depths ≤ parents
  unfolding capacity_of
  capacity_parents true = omega arith
  capacity_parents false = omega arith

  pub capacity_depths : (paired : Bool) → capacity_of paired conditions absences actions parents depths ≤ depths
  unfolding capacity_of
  capacity_depths true = omega arith
  capacity_depths false = omega arith

  pub capacity_most : (paired : Bool) → capacity_of paired conditions absences actions parents depths ≤ 4096
  unfolding capacity_of
  capacity_most true = omega arith
  capacity_most false = omega arith

  pub capacity_pairs : (paired : Bool) → T paired → capacity_of paired conditions absences actions parents depths ≤ 2978
  unfolding capacity_of
  capacity_pairs true t = omega arith
  capacity_pairs false t = absurd t

-- ---- second masks

module _ (paired : Bool) where
  pub if_most : (n : ℕ) → if_paired paired n ≤ n
  if_most n = by_kind paired
    where
      by_kind : (p : Bool) → if_paired p n ≤ n
      by_kind true = omega arith
      by_kind false = omega arith

  -- what is lent of them, cut to those that count
  pub cut_paired : (absences : List ℕ) → take (if_paired paired (length absences)) absences ≡ (if paired then absences else [])
  cut_paired absences = by_kind paired
    where
      by_kind : (p : Bool) → take (if_paired p (length absences)) absences ≡ (if p then absences else [])
      by_kind true = take-length absences
      by_kind false = refl

-- ---- the answer

-- how many entries an answer says are stored
abbrev pub stored : Expanded → ℕ
stored (X.Exhausted n) = n
stored (X.Covered n) = n
stored (X.Full n) = n

pub outcome_entries : (r : Expanded) (t : Columns) → entries (outcome_of r t) ≡ held t (stored r)
outcome_entries (X.Exhausted n) t = refl
outcome_entries (X.Covered n) t = refl
outcome_entries (X.Full n) t = refl

-- the answer of an outcome: with it the contract says outright what the result is
abbrev pub answer_of : Outcome Condition → Expanded
answer_of (exhausted l) = X.Exhausted (length l)
answer_of (covered l) = X.Covered (length l)
answer_of (full l) = X.Full (length l)

-- entry i, as the tables hold it
abbrev pub entry_of : Columns → ℕ → Entry Condition
entry_of t i = entry_at t.conditions t.absences t.actions t.parents t.depths i

pub held_length : (t : Columns) (n : ℕ) → length (held t n) ≡ n
held_length t n = length_prefix (entry_of t) n

-- Document 02, W6: the search answers none "exactly where it did before", where no listed condition is a part.
module _ (A : Actions) (goal : Condition) (t : Columns) (n : ℕ) (c : Condition) where
  condition_held : (i : ℕ) → i < n → (entry_in (unit_domain A goal) (held t n) i).condition ≡ condition_at t.conditions t.absences i
  condition_held i h = ap (λ x. x.condition) (get_d_prefix (entry_of t) n i _ h)

  pub nowhere_unlisted : (newest_weaker t.conditions t.absences n c ≡ None) ↔ T (not (listed (unit_domain A goal) (held t n) c))
  nowhere_unlisted =
      let D = unit_domain A goal in
      let few = held_length t n in (
        λ e. none_listed D (held t n) c (λ i h p.
            let k : i < n = omega (arith, few) in
            nowhere_none t.conditions t.absences c n e i k (rw (condition_held i k) at p)),
        λ u. none_nowhere t.conditions t.absences c n (λ i h p.
            T_not (listed D (held t n) c) u (some_listed D (held t n) c i (omega (arith, few)) (rw (condition_held i h) p))),
      )

-- the papers' number of an answer is that of the list that the tables then hold
pub answer_listed : (until : Until) (r : Expanded) (t : Columns)
    → expanded_of until r ≡ and_then (listed_by until (outcome_of r t)) (λ l. accepted (length l))
answer_listed (U.Covers start) (X.Exhausted n) t = rw (held_length t n)
answer_listed U.Never (X.Exhausted n) t = rw (held_length t n)
answer_listed (U.Covers start) (X.Covered n) t = rw (held_length t n)
answer_listed U.Never (X.Covered n) t = rw (held_length t n)
answer_listed (U.Covers start) (X.Full n) t = rw (held_length t n)
answer_listed U.Never (X.Full n) t = rw (held_length t n)

outcome_answer : (r : Expanded) (t : Columns) → answer_of (outcome_of r t) ≡ r
outcome_answer (X.Exhausted n) t = ap X.Exhausted (held_length t n)
outcome_answer (X.Covered n) t = ap X.Covered (held_length t n)
outcome_answer (X.Full n) t = ap X.Full (held_length t n)

module _ {paired : Bool} {A : Actions} {goal : Condition} {until : Until} {before after : Columns} {r : Expanded}
    (E : Expands paired A goal until before after r) where
  abbrev list : List (Entry Condition)
  list = entries (plan_in paired before A goal until)

  abbrev D : Domain ℕ Condition ℕ
  D = unit_domain A goal

  -- ---- the answer and the entries

  pub answer_is : r ≡ answer_of (plan_in paired before A goal until)
  answer_is = sym (outcome_answer r after) ∙ ap answer_of E.outcome

  -- the entries read back from the tables are the list of the plan
  pub list_held : held after (stored r) ≡ list
  list_held = sym (outcome_entries r after) ∙ ap entries E.outcome

  pub list_length : length list ≡ stored r
  list_length = ap length (sym list_held) ∙ held_length after (stored r)

  pub entry_held : (i : ℕ) → i < stored r → entry_of after i ≡ entry_in D list i
  entry_held i h = sym (get_d_prefix (entry_of after) (stored r) i _ h) ∙ ap (λ (l : List (Entry Condition)). entry_in D l i) list_held

  -- ---- how many there are

  pub stored_fits : stored r ≤ room before paired
  stored_fits = omega (arith, planned_fits (fact_plannable A goal) (room before paired) (ended_by until), list_length)

  pub stored_small : stored r ≤ 4096
  stored_small =
      let t = before in
      omega (
        arith,
        stored_fits,
        capacity_most (length t.conditions) (length t.absences) (length t.actions) (length t.parents) (length t.depths) paired,
      )

  -- ---- what they are: the goal first, and each later entry comes from an earlier one by one of the actions

  pub stored_goal : 0 < stored r → condition_at after.conditions after.absences 0 ≡ goal
  stored_goal h =
      ap (λ x. x.condition) (entry_held 0 h)
      ∙ (planned_good (fact_plannable A goal) (room before paired) (ended_by until) (omega (arith, list_length))).goal_first

  module _ (i : ℕ) (h : i < stored r) where
    inside : i < length list
    inside = omega (arith, list_length)

    pub stored_depth : get_or after.depths i 0 ≤ i
    stored_depth =
        let e = ap (λ x. x.depth) (entry_held i h) in
        omega (arith, e, planned_depth (fact_plannable A goal) (room before paired) (ended_by until) i inside)

    -- the conditions are sets of the table's facts
    pub stored_within : (f : ℕ) → WithinFacts f A goal → T (condition_within f (condition_at after.conditions after.absences i))
    stored_within f W =
        subst (λ (c : Condition). T (condition_within f c)) (sym (ap (λ x. x.condition) (entry_held i h)))
        (entry_within A goal (room before paired) (ended_by until) f W i inside)

    module _ (later : 0 < i) where
      pub stored_derived : Derived D (listing D list) i
      stored_derived = (planned_good (fact_plannable A goal) (room before paired) (ended_by until) (omega (arith, inside))).derived i later inside

      pub stored_action : get_or after.actions i 0 < A.count
      stored_action =
          rw (ap (λ x. x.action) (entry_held i h)) (planned_action (fact_plannable A goal) (room before paired) (ended_by until) i later inside)

      pub stored_parent : get_or after.parents i 0 < i
      stored_parent = rw (ap (λ x. x.parent) (entry_held i h)) stored_derived.parent_before

-- ---- what each answer says

module _ {paired : Bool} {A : Actions} {goal : Condition} {start : ℕ} {before after : Columns} {n : ℕ} where
  -- the last entry is the first one that the start meets
  pub covered_first : Expands paired A goal (U.Covers start) before after (X.Covered n)
      → (i : ℕ) × (n ≡ suc i) × FirstIn (unit_domain A goal) (held after n) start i
  covered_first E =
      let f = fact_start_first A goal (room before paired) start (held after n) (sym E.outcome) in
      (f.0, omega (arith, f.1, held_length after n), f.2)

  -- "No way": no sequence of actions leads from the start to the goal
  pub exhausted_no_way : Separate A → Expands paired A goal (U.Covers start) before after (X.Exhausted n) → (w : List ℕ) → Reaches (unit_domain A goal) start w → ⊥
  exhausted_no_way separate E = fact_no_way A goal (room before paired) start separate (held after n) (sym E.outcome)

module _ {paired : Bool} {A : Actions} {goal : Condition} {until : Until} {before after : Columns} {n : ℕ} where
  -- "List full": there are as many entries as the capacity
  pub full_capacity : Expands paired A goal until before after (X.Full n) → n ≡ room before paired
  full_capacity E =
      let P = fact_plannable A goal in
      let known : Sound (unit_domain A goal) (room before paired) (ended_by until) (entry_in (unit_domain A goal) (held after n)) (full (held after n)) =
      subst (λ (o : Outcome Condition). Sound (unit_domain A goal) (room before paired) (ended_by until) (entry_in (unit_domain A goal) (entries o)) o) (sym E.outcome)
      (expand_sound (unit_domain A goal) A.count (room before paired) (ended_by until) P.unit_cost P.weaker_refl P.below_count) in
      omega (arith, known.size, held_length after n)

  -- a list that ended otherwise has an entry
  pub exhausted_some : Expands paired A goal until before after (X.Exhausted n) → 1 ≤ n
  exhausted_some E = omega (arith, exhausted_nonempty (fact_plannable A goal) (room before paired) (ended_by until) (held after n) (sym E.outcome), held_length after n)

  pub covered_some : Expands paired A goal until before after (X.Covered n) → 1 ≤ n
  covered_some E = omega (arith, covered_nonempty (fact_plannable A goal) (room before paired) (ended_by until) (held after n) (sym E.outcome), held_length after n)

-- ---- a list that is written to the fronts of the tables

module _ (l : List (Entry Condition)) where
  pub over_long : (field : Entry Condition → ℕ) (xs : List ℕ) → length l ≤ length (over field l xs)
  over_long field xs = omega (arith, length-append (map field l) (drop (length l) xs), length-map l field)

  pub over_at : (field : Entry Condition → ℕ) (xs : List ℕ) (i : ℕ) (d : Entry Condition) → i < length l → get_or (over field l xs) i 0 ≡ field (get_or l i d)
  over_at field xs i d h =
      let inside : i < length (map field l) = omega (arith, length-map l field) in
      get_or-append (map field l) (drop (length l) xs) 0 i inside ∙ get_d_inside (map field l) i 0 (field d) inside ∙ get_or-map field l i d
