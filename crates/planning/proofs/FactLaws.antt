-- The laws of the domain of facts, and demand 3 in it: document 01, "Work on a vehicle"; document 02, W10.
-- Assumes nothing.
use Rattle.std.specs.Prelude.{◌≡◌, refl, Bool, true, false, not, ◌&&◌, ◌||◌, List, [], ◌∷◌, ◌++◌, ◌↔◌, ℕ, zero, suc, ◌-◌, ◌≤◌, ◌<◌, T, ltb, length}
use Rattle.std.proofs.Common.{sym, ap, ◌∙◌, T_not, ltb→lt, arith}
use Rattle.std.proofs.Math.Dec.{not_T}
use Rattle.std.proofs.Math.Decide.{dec_le}
use Rattle.base.specs.Lists.{prefix}
use Rattle.base.specs.Bools.{and_intro, and_left, and_right}
use Rattle.masks.specs.Sets.{within}
use Rattle.conditions.specs.declared.Action.{Action}
use Rattle.conditions.specs.declared.Condition.{Condition}
use Rattle.conditions.specs.Condition.{weaker, consistent, satisfied, relevant, condition_within}
use Rattle.conditions.specs.ConditionLaws.{weaker_refl, weaker_satisfied, satisfied_consistent, irrelevant_kept, regressed_held, regressed_applicable, relevant_achieves, applied_within, regressed_within}
use Rattle.conditions.specs.ConditionLaws.{plain_regressed, satisfied_itself, satisfied_weaker, itself_within}
use Rattle.planning.specs.Domain.{Domain, Laws, Plannable}
use Rattle.planning.specs.Sequence.{Answer, Reaches}
use Rattle.planning.specs.Expansion.{Entry, Outcome, exhausted, covered, full, entries, and_then, root, entry_in, new_entry, listed, wanted, expand_entry, expand_from, expand, remaining_at}
use Rattle.planning.specs.Demand.{FirstIn, CoveredBy, tick_list, Fewest}
use Rattle.planning.proofs.DemandLaws.{fewest, fewest_transfer, planned_condition, planned_satisfiable, irredundant, replan, unending, start_first, covers_all, no_way, covered_iff, distance}
use Rattle.planning.proofs.Logic.{choice_false}
use Rattle.planning.proofs.SearchLaws.{wanted_relevant}
use Rattle.planning.specs.Facts.{Actions, fact_domain, unit_domain, fact_plan, start_plan, shift_plan, Separate, Plain, WithinFacts}

module _ (A : Actions) where
  abbrev act : ℕ → Action
  act a = A.action a

  number : (a : ℕ) (b : Bool) → T (ltb a A.count && b) → a < A.count
  number a b t = ltb→lt a A.count (and_left (ltb a A.count) b t)

  pub fact_laws : Separate A → (cost : ℕ → ℕ) (goal : Condition) → Laws (fact_domain A cost goal)
  fact_laws separate cost goal =
      record {
        irrelevant_kept = λ a s c k m r. irrelevant_kept (act a) s c (separate a (number a _ k)) m
            (not_T (relevant (act a) c) (λ t. T_not (ltb a A.count && relevant (act a) c) r
            (and_intro (ltb a A.count) _ (and_left (ltb a A.count) _ k) t)));
        regressed_held = λ a s c k m r. regressed_held (act a) s c (and_right (ltb a A.count) _ k) m;
        regressed_applicable = λ a s c r m.
            and_intro (ltb a A.count) _ (and_left (ltb a A.count) _ r) (regressed_applicable (act a) s c m);
        relevant_achieves = λ a s c r m. relevant_achieves (act a) s c (and_right (ltb a A.count) _ r) m;
        weaker_satisfied = weaker_satisfied;
        weaker_refl = weaker_refl;
        satisfied_satisfiable = λ s c. satisfied_consistent c s;
      }

module _ (A : Actions) (goal : Condition) where
  abbrev D : Domain ℕ Condition ℕ
  D = unit_domain A goal

  pub fact_plannable : Plannable D A.count
  fact_plannable = record { weaker_refl = weaker_refl; below_count = λ a c t. number A a _ t; unit_cost = λ a. refl }

  laws : Separate A → Laws D
  laws separate = fact_laws A separate (λ a. 1) goal

  -- ---- any plan over the facts: for a start, or whatever else stops it

  module _ (capacity : ℕ) (stop : Condition → Bool) where
    abbrev planned : List (Entry Condition)
    planned = entries (expand D A.count capacity stop)

    -- demand 3
    pub fact_fewest : Separate A → (s : ℕ) → CoveredBy D planned s → Fewest D (tick_list D planned) planned s
    fact_fewest separate = fewest fact_plannable capacity stop (laws separate)

    -- every entry is expanded
    module _ (separate : Separate A) (l : List (Entry Condition)) (e : expand D A.count capacity stop ≡ exhausted l) where
      pub fact_covers_all : (s : ℕ) (w : List ℕ) → Reaches D s w → CoveredBy D l s
      fact_covers_all = covers_all fact_plannable capacity stop l e (laws separate)

      pub fact_covered_iff : (s : ℕ) → CoveredBy D l s ↔ ((w : List ℕ) × Reaches D s w)
      fact_covered_iff = covered_iff fact_plannable capacity stop l e (laws separate)

      pub fact_distance : (s i : ℕ) → FirstIn D l s i → (d : ℕ) (w : List ℕ) → Reaches D s w → length w ≡ d
          → ((v : List ℕ) → Reaches D s v → d ≤ length v) → d ≡ (entry_in D l i).depth
      fact_distance = distance fact_plannable capacity stop l e (laws separate)

    -- no listed condition wants a fact both ways
    pub consistent_conditions : T (consistent goal) → (i : ℕ) → i < length planned → T (consistent (entry_in D planned i).condition)
    consistent_conditions = planned_satisfiable fact_plannable capacity stop

    -- where nothing is to be absent, no listed condition wants a fact absent
    pub plain_conditions : Plain A goal → (i : ℕ) → i < length planned → (entry_in D planned i).condition.absent ≡ 0
    plain_conditions P =
        planned_condition fact_plannable capacity stop (λ c. c.absent ≡ 0) P.goal_plain
        (λ a c t. plain_regressed (A.action a) c (P.actions_plain a (fact_plannable.below_count a c t)))

    -- where nothing is to be absent, each beginning of a list, whatever ended it, is the plan for its last condition as the start, if only there is room
    pub fact_replan : Plain A goal → (capacity' n : ℕ) → n < length planned → n < capacity'
        → start_plan A goal capacity' (entry_in D planned n).condition.present ≡ covered (prefix (entry_in D planned) (suc n))
    fact_replan P capacity' n inside fits =
        let none = plain_conditions P in
        let last = (entry_in D planned n).condition in
        replan fact_plannable capacity stop capacity' (λ c. satisfied c last.present) n inside fits (satisfied_itself last (none n inside))
        (λ i h m. satisfied_weaker (entry_in D planned i).condition (none i (omega arith)) last m)

    -- ---- within the facts of the table: "A state is a held mask without a bit at or above F"

    module _ (f : ℕ) (W : WithinFacts f A goal) where
      -- a finished action leaves a state
      pub result_within : (a s : ℕ) → T (D.applicable a s) → T (within f s) → T (within f (D.result a s))
      result_within a s t = applied_within f (A.action a) (W.actions_within a (number A a _ t)) s

      -- each listed condition is a set of the table's facts
      pub entry_within : (i : ℕ) → i < length planned → T (condition_within f (entry_in D planned i).condition)
      entry_within =
          planned_condition fact_plannable capacity stop (λ c. T (condition_within f c)) W.goal_within
          (λ a c t. regressed_within f (A.action a) (W.actions_within a (fact_plannable.below_count a c t)) c)

      -- document 02's dead lines, "for tables without 0x21": there are none, since each entry is the first one met in at least one state
      pub fact_irredundant : Plain A goal → (i : ℕ) → i < length planned → (s : ℕ) × T (within f s) × FirstIn D planned s i
      fact_irredundant P i h =
          let none = plain_conditions P in
          let c = (entry_in D planned i).condition in (
            c.present,
            itself_within f c (entry_within i h),
            irredundant fact_plannable capacity stop i h c.present (satisfied_itself c (none i h))
                (λ k l m. satisfied_weaker (entry_in D planned k).condition (none k (omega arith)) c m),
          )

      -- demand 3 for every tick that answers, in each state, as the tick of the list does
      pub fact_fewest_by : Separate A → (tick : ℕ → Answer ℕ) → ((s : ℕ) → T (within f s) → tick s ≡ tick_list D planned s)
          → (s : ℕ) → T (within f s) → CoveredBy D planned s → Fewest D tick planned s
      fact_fewest_by separate tick alike s w c =
          fewest_transfer D (λ s. T (within f s)) result_within (tick_list D planned) tick (λ s h. sym (alike s h)) planned s w (fact_fewest separate s c)

  -- ---- document 02's plan for the whole shift, W2

  -- nothing ends it early
  pub fact_unending : (capacity : ℕ) (l : List (Entry Condition)) → shift_plan A goal capacity ≡ covered l → ⊥
  fact_unending capacity = unending fact_plannable capacity (λ c. false) (λ c t. t)

  -- ---- document 01's plan, for a start

  module _ (capacity start : ℕ) where
    -- it ends at the first entry that the start meets
    pub fact_start_first : (l : List (Entry Condition)) → start_plan A goal capacity start ≡ covered l → (i : ℕ) × (length l ≡ suc i) × FirstIn D l start i
    fact_start_first = start_first fact_plannable capacity (λ c. satisfied c start) start (λ c. refl)

    -- "No way: every entry is expanded and none is part of the start." Then no sequence reaches the goal from it.
    pub fact_no_way : Separate A → (l : List (Entry Condition)) → start_plan A goal capacity start ≡ exhausted l → (w : List ℕ) → Reaches D start w → ⊥
    fact_no_way separate l e = no_way fact_plannable capacity (λ c. satisfied c start) l e (laws separate) start (λ c t. t)

-- ---- actions past the count

-- what stands past the count makes no plan another
module _ {n : ℕ} {f g : ℕ → Action} (same : (a : ℕ) → a < n → f a ≡ g a) (goal : Condition) where
  abbrev numbered : (ℕ → Action) → Actions
  numbered h = record { count = n; action = h }

  abbrev F : Domain ℕ Condition ℕ
  F = unit_domain (numbered f) goal

  abbrev G : Domain ℕ Condition ℕ
  G = unit_domain (numbered g) goal

  listed_same : (l : List (Entry Condition)) (c : Condition) → listed F l c ≡ listed G l c
  unfolding listed
  listed_same [] c = refl
  listed_same (x ∷ l) c = ap (λ (b : Bool). weaker x.condition c || b) (listed_same l c)

  wanted_same : (a : ℕ) (x : Entry Condition) (l : List (Entry Condition)) → a < n → wanted F a x l ≡ wanted G a x l
  wanted_same a x l h = rw (same a h, listed_same) refl

  past_unwanted : (h : ℕ → Action) (a : ℕ) (x : Entry Condition) (l : List (Entry Condition)) → n ≤ a → T (not (wanted (unit_domain (numbered h) goal) a x l))
  past_unwanted h a x l past =
      let D = unit_domain (numbered h) goal in
      not_T (wanted D a x l) (λ t. absurd (omega (arith, past, (fact_plannable (numbered h) goal).below_count a x.condition (wanted_relevant D a x l t))))

  module _ (capacity : ℕ) (stop : Condition → Bool) where
    -- a turn of the expansion, by the new entry and what follows
    abbrev turn : List (Entry Condition) → Bool → Entry Condition → (passed grown : Outcome Condition) → Outcome Condition
    turn l wanted new passed grown =
        elim wanted [
          | false ↦ passed
          | true ↦ elim (ltb (length l) capacity) [
            | false ↦ full l
            | true ↦ elim (stop new.condition) [ true ↦ covered (l ++ (new ∷ [])) | false ↦ grown ]
          ]
        ]

    entry_same : (left a e : ℕ) (x : Entry Condition) (l : List (Entry Condition))
        → expand_entry F n capacity stop left a e x l ≡ expand_entry G n capacity stop left a e x l
    unfolding expand_entry
    entry_same zero a e x l = refl
    entry_same (suc left) a e x l =
        elim (dec_le n a) [
          | yes past ↦
              choice_false (wanted F a x l) _ _ (past_unwanted f a x l past)
              ∙ entry_same left (suc a) e x l
              ∙ sym (choice_false (wanted G a x l) _ _ (past_unwanted g a x l past))
          | no below ↦
              let h : a < n = omega arith in
              let new : new_entry F a e x ≡ new_entry G a e x = rw (same a h) refl in
              let grown = ap (λ (y : Entry Condition). expand_entry F n capacity stop left (suc a) e x (l ++ (y ∷ []))) new
              ∙ entry_same left (suc a) e x (l ++ (new_entry G a e x ∷ [])) in
              λ k. turn l (wanted_same a x l h k) (new k) (entry_same left (suc a) e x l k) (grown k)
        ]

    -- from where the loop over the entries stands, and the loop over the actions
    pub from_same : (left e : ℕ) (l : List (Entry Condition)) → expand_from F n capacity stop left e l ≡ expand_from G n capacity stop left e l
    unfolding expand_from
    from_same zero e l = refl
    from_same (suc left) e l =
        λ k. elim (ltb e (length l)) [
          | false ↦ exhausted l
          | true ↦ and_then (entry_same n 0 e (entry_in F l e) l k) (λ m. from_same left (suc e) m k)
        ]

    pub at_same : (e a : ℕ) (l : List (Entry Condition)) → remaining_at F n capacity stop e a l ≡ remaining_at G n capacity stop e a l
    at_same e a l = λ k. and_then (entry_same (n - a) a e (entry_in F l e) l k) (λ m. from_same (capacity - suc e) (suc e) m k)

    pub fact_same : fact_plan (numbered f) goal capacity stop ≡ fact_plan (numbered g) goal capacity stop
    unfolding expand
    fact_same =
        λ k. elim (ltb 0 capacity) [
          | false ↦ full []
          | true ↦ elim (stop goal) [ true ↦ covered (root F ∷ []) | false ↦ from_same capacity 0 (root F ∷ []) k ]
        ]
