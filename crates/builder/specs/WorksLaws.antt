-- Every list of a table's goal and its tree, whatever ended the list, keeps demand 3 and what every tick keeps.
-- Assumes nothing.
use Rattle.std.specs.Prelude.{ℕ, suc, ◌≤◌, ◌<◌, ◌≡◌, refl, Bool, true, false, not, List, [], ◌∷◌, ◌↔◌, ◌⊎◌, T, leb, length}
use Rattle.std.proofs.Common.{arith, sym, ap, ◌∙◌, subst, inl, inr, ⊎_elim, leb→le, leb-false}
use Rattle.base.specs.Bools.{holds, is_true, and_intro, and_right}
use Rattle.masks.specs.Sets.{intersects, within}
use Rattle.masks.specs.Laws.{within_empty}
use Rattle.refusal.specs.Checked.{accepted, refused}
use Rattle.refusal.specs.CheckedLaws.{not_both, accepted_same}
use Rattle.reading.specs.declared.Reading.{Reading}
use Rattle.reading.specs.Reading.{sound, Completes, state}
use Rattle.reading.specs.ReadingLaws.{sound_apart, completes_within, state_sound}
use Rattle.conditions.specs.declared.Condition.{Condition}
use Rattle.conditions.specs.Condition.{plain, consistent, needed, condition_within}
use Rattle.conditions.specs.ConditionLaws.{plain_consistent}
use Rattle.conditions.specs.OnReading.{Confirmed}
use Rattle.conditions.specs.OnReadingLaws.{regressed_confirmed}
use Rattle.numbers.specs.Numbers.{AreBytes}
use Rattle.job.specs.Job.{action_of}
use Rattle.job.proofs.ValidationLaws.{action_within, effects_separate}
use Rattle.table.specs.Table.{Table}
use Rattle.table.specs.Read.{read_table}
use Rattle.table.proofs.RoundTripLaws.{read_sound}
use Rattle.planning.specs.Domain.{Domain}
use Rattle.planning.specs.Sequence.{Answer}
use Rattle.planning.specs.Columns.{max_entries}
use Rattle.planning.specs.Listing.{Good}
use Rattle.planning.specs.Expansion.{Entry, Outcome, exhausted, covered, full, entries, root, entry_in, listing}
use Rattle.planning.specs.Demand.{CoveredBy, tick_list, Fewest}
use Rattle.planning.proofs.DemandLaws.{planned_fits, planned_full, planned_good, planned_action}
use Rattle.planning.specs.Facts.{Actions, unit_domain, fact_plan, Separate, Plain, WithinFacts}
use Rattle.planning.proofs.FactLaws.{fact_plannable, fact_fewest_by, fact_irredundant, entry_within, consistent_conditions, plain_conditions}
use Rattle.tree.specs.declared.Status.TheVariants.{Failure, Running, Unsettled}
use Rattle.tree.specs.Tick.{tick_tree}
use Rattle.tree.specs.TickBytes.{tick_bytes, answered}
use Rattle.runs.specs.Runs.{answer_of_status, run_answer, tick_on}
use Rattle.flat.specs.TreeBytes.{own_tree, everyone, tree_bytes}
use Rattle.flat.specs.FlatTick.{seen_by}
use Rattle.flat.specs.FlatTree.{Each, Fits, tree_of}
use Rattle.flat.specs.FlatTreeLaws.{each_by_place, later_by_place}
use Rattle.flat.specs.ReadBackLaws.{tick_read}
use Rattle.flat.specs.FlatTickLaws.{tick_agrees, unsettled_differ, action_named, failure_iff, tick_seen}
use Rattle.expander.specs.declared.Until.{Until}
use Rattle.expander.specs.declared.Until.TheVariants as U
use Rattle.expander.specs.Expands.{ended_by, listed_by}
use Rattle.builder.specs.Plan.{job_of, table_actions, table_domain, pairs, one_tree, plan_by}
use Rattle.builder.specs.Finish.{Finish, planned}
use Rattle.builder.specs.FinishLaws.{listed_entries, planned_list, planned_refused}
use Rattle.builder.specs.RowLaws.{no_absent}
use Rattle.builder.specs.Works.{Ticks, Works, FewestJobs, Irredundant, NoRoom}

-- ---- the tick of a list's tree, where the list has at least an entry

module _ (mine : ℕ → Bool) (paired : Bool) (A : Actions) (goal : Condition) where
  abbrev F : Domain ℕ Condition ℕ
  F = unit_domain A goal

  -- the job that is named is that of a later entry, whose condition is read and held
  list_named : (l : List (Entry Condition)) (r : Reading) (job : ℕ) → 1 ≤ length l → (tick_tree r (tree_of mine paired l)).answer ≡ Running job
      → (i : ℕ) × (suc i < length l) × ((entry_in F l (suc i)).action ≡ job) × Confirmed r (entry_in F l (suc i)).condition
  list_named [] r job h e = absurd (omega arith)
  list_named (x ∷ l) r job h e =
      let n = action_named mine paired (root F) r x l job e in
      (n.at, omega (arith, n.inside), n.is_action, n.confirmed)

  list_fails : (l : List (Entry Condition)) (s : ℕ) → 1 ≤ length l → ((tick_tree (state s) (tree_of mine paired l)).answer ≡ Failure) ↔ (CoveredBy F l s → ⊥)
  list_fails [] s h = absurd (omega arith)
  list_fails (x ∷ l) s h =
      let f = failure_iff mine paired (root F) s x l in
      ((λ e c. f.0 e c.at c.inside c.met), (λ n. f.1 (λ i k m. n (record { at = i; inside = k; met = m }))))

list_differ : (mine : ℕ → Bool) (paired : Bool) (l : List (Entry Condition)) (r : Reading) (m : ℕ) → T (not (intersects r.held r.unread))
    → Each (λ x. T (consistent x.condition)) l → 1 ≤ length l → (tick_tree r (tree_of mine paired l)).answer ≡ Unsettled m
    → (s u : ℕ) × Completes r s × Completes r u × (tick_tree (state s) (tree_of mine paired l) ≡ tick_tree (state u) (tree_of mine paired l) → ⊥)
list_differ mine paired [] r m d one_way h e = absurd (omega arith)
list_differ mine paired (x ∷ l) r m d one_way h e = unsettled_differ mine paired r d x l m one_way e

-- with all jobs it answers as the list does, and one who has some of them sees what is his
list_agrees : (paired : Bool) (A : Actions) (goal : Condition) (l : List (Entry Condition)) (s : ℕ) → 1 ≤ length l
    → answer_of_status (tick_tree (state s) (tree_of everyone paired l)).answer ≡ tick_list (unit_domain A goal) l s
list_agrees paired A goal [] s h = absurd (omega arith)
list_agrees paired A goal (x ∷ l) s h = tick_agrees paired (unit_domain A goal) (λ s c. refl) s x l

list_seen : (mine : ℕ → Bool) (paired : Bool) (l : List (Entry Condition)) (r : Reading) → 1 ≤ length l
    → (tick_tree r (tree_of mine paired l)).answer ≡ seen_by mine (tick_tree r (tree_of everyone paired l)).answer
list_seen mine paired [] r h = absurd (omega arith)
list_seen mine paired (x ∷ l) r h = tick_seen mine paired r x l

-- ---- a table that was read, whatever ends its list

module _ (table : List ℕ) (b : AreBytes table) (t : Table) (e : read_table table ≡ accepted t) (capacity : ℕ) (until : Until) where
  abbrev A : Actions
  A = table_actions t

  abbrev D : Domain ℕ Condition ℕ
  D = table_domain t

  abbrev goal : Condition
  goal = plain t.goal

  abbrev paired : Bool
  paired = pairs t

  pub facts_few : t.facts ≤ 64
  facts_few = leb→le t.facts 64 (and_right (leb 1 t.facts) _ (holds _ (read_sound table b t e).facts_range_held))

  pub within_facts : WithinFacts t.facts A goal
  within_facts =
      let S = read_sound table b t e in
      record {
        goal_within = and_intro (within t.facts t.goal) _ (holds _ S.sound_goal) (within_empty t.facts);
        actions_within = λ a h. action_within (S.sound_jobs a h);
      }

  -- number 6
  pub separate : Separate A
  separate a h = effects_separate ((read_sound table b t e).sound_jobs a h)

  pub nothing_absent : paired ≡ false → Plain A goal
  nothing_absent none = record { goal_plain = refl; actions_plain = λ a h. no_absent table b t e none a }

  -- each entry is the first one met in the state that holds just its condition
  pub list_irredundant : Irredundant t (entries (fact_plan A goal capacity (ended_by until)))
  list_irredundant none = fact_irredundant A goal capacity (ended_by until) t.facts within_facts (nothing_absent none)

  -- a list whose tree is written

  module _ (few : capacity ≤ max_entries paired) (l : List (Entry Condition)) (some : 1 ≤ length l) (q : entries (fact_plan A goal capacity (ended_by until)) ≡ l) where
    -- what is known of every plan's list, of this one
    of_list : (P : List (Entry Condition) → Type 0) → P (entries (fact_plan A goal capacity (ended_by until))) → P l
    of_list P = subst P q

    good : Good D (listing D l) (length l)
    good = of_list (λ l. 0 < length l → Good D (listing D l) (length l)) (planned_good (fact_plannable A goal) capacity (ended_by until)) some

    -- the goal is entry 0's condition
    pub goal_covered : (s : ℕ) → T (D.satisfies s D.goal) → CoveredBy D l s
    goal_covered s h = record { at = 0; inside = some; met = subst (λ (c : Condition). T (D.satisfies s c)) (sym good.goal_first) h }

    known : (i : ℕ) → 0 < i → i < length l → (entry_in D l i).action < length t.jobs
    known = of_list (λ l. (i : ℕ) → 0 < i → i < length l → (entry_in D l i).action < length t.jobs) (planned_action (fact_plannable A goal) capacity (ended_by until))

    one_way : Each (λ x. T (consistent x.condition)) l
    one_way =
        each_by_place _ l _ (of_list (λ l. (i : ℕ) → i < length l → T (consistent (entry_in D l i).condition))
        (consistent_conditions A goal capacity (ended_by until) (plain_consistent goal refl)))

    fits : Fits paired t.facts (length t.jobs) l
    fits =
        record {
          some = some;
          few = omega (arith, few, of_list (λ l. length l ≤ capacity) (planned_fits (fact_plannable A goal) capacity (ended_by until)));
          facts_fit = facts_few;
          conditions_fit = each_by_place _ l _ (of_list (λ l. (i : ℕ) → i < length l → T (condition_within t.facts (entry_in D l i).condition))
              (entry_within A goal capacity (ended_by until) t.facts within_facts));
          plain_fit = λ none. each_by_place _ l _ (of_list (λ l. (i : ℕ) → i < length l → (entry_in D l i).condition.absent ≡ 0)
              (plain_conditions A goal capacity (ended_by until) (nothing_absent none)));
          actions_fit = later_by_place _ l _ (λ i h. known (suc i) (omega arith) h);
        }

    -- demand 3, of ticks that answer as the list does
    pub list_fewest : (tick : ℕ → Answer ℕ) → ((s : ℕ) → T (within t.facts s) → tick s ≡ tick_list D l s)
        → (s : ℕ) → T (within t.facts s) → CoveredBy D l s → Fewest D tick l s
    list_fewest tick =
        of_list (λ m. ((s : ℕ) → T (within t.facts s) → tick s ≡ tick_list D m s) → (s : ℕ) → T (within t.facts s) → CoveredBy D m s → Fewest D tick m s)
        (fact_fewest_by A goal capacity (ended_by until) t.facts within_facts separate tick)

    -- the tree of one who has all jobs, or some
    module _ (mine : ℕ → Bool) where
      abbrev tree : List ℕ
      tree = own_tree mine paired l

      tick_is : (r : Reading) → sound t.facts r ≡ true → tick_bytes table tree r ≡ accepted (tick_tree r (tree_of mine paired l))
      tick_is = tick_read mine paired table t e l fits

      state_tick : (s : ℕ) → T (within t.facts s) → tick_bytes table tree (state s) ≡ accepted (tick_tree (state s) (tree_of mine paired l))
      state_tick s w = tick_is (state s) (is_true _ (state_sound t.facts s w))

      module _ (r : Reading) (sounds : sound t.facts r ≡ true) where
        apart : T (not (intersects r.held r.unread))
        apart = sound_apart t.facts r (holds _ sounds)

        needs_met : (job : ℕ) → (tick_tree r (tree_of mine paired l)).answer ≡ Running job → (job < length t.jobs) × Confirmed r (needed (action_of (job_of t job)))
        needs_met job a =
            let n = list_named mine paired A goal l r job some a in
            let d = good.derived (suc n.0) (omega arith) n.1 in
            let its = (entry_in D l (suc n.0)).action in
            let needs : Confirmed r (needed (action_of (job_of t its))) =
            regressed_confirmed r (action_of (job_of t its)) _ (rw d.condition_regressed at n.3) in
            (rw n.2 at (known (suc n.0) (omega arith) n.1), rw n.2 at needs)

        two_differ : (m : ℕ) → (tick_tree r (tree_of mine paired l)).answer ≡ Unsettled m
            → (s u : ℕ) × Completes r s × Completes r u × (tick_bytes table tree (state s) ≡ tick_bytes table tree (state u) → ⊥)
        two_differ m a =
            let d = list_differ mine paired l r m apart one_way some a in (
              d.0,
              d.1,
              d.2,
              d.3,
              λ same. d.4 (accepted_same (sym (filled d.0 d.2) ∙ same ∙ filled d.1 d.3)),
            )
          where
            filled : (s : ℕ) → Completes r s → tick_bytes table tree (state s) ≡ accepted (tick_tree (state s) (tree_of mine paired l))
            filled s k = state_tick s (completes_within t.facts r (holds _ sounds) s k)

        ticks_well : Ticks t table tree r
        ticks_well = record { answer = tick_tree r (tree_of mine paired l); is_answer = tick_is r sounds; needs_held = needs_met; unsettled = two_differ }

        -- he sees what is his of the tree with all jobs
        pub list_answer : answered (tick_bytes table tree r) ≡ accepted (seen_by mine (tick_tree r (tree_of everyone paired l)).answer)
        list_answer = rw (tick_is r sounds) (ap accepted (list_seen mine paired l r some))

      fails_iff : (s : ℕ) → T (within t.facts s) → (answered (tick_bytes table tree (state s)) ≡ accepted Failure) ↔ (CoveredBy D l s → ⊥)
      fails_iff s w =
          let f = list_fails mine paired A goal l s some in
          rw (state_tick s w) ((λ e. f.0 (accepted_same e)), (λ n. ap accepted (f.1 n)))

      pub list_serves : {Best : ℕ → Type 0} → ((s : ℕ) → T (within t.facts s) → CoveredBy D l s → Best s) → Works Best t table l tree
      list_serves best = record { best = best; fails = fails_iff; ticks = ticks_well }

    -- with all jobs it answers as the list does
    pub state_agrees : (s : ℕ) → answer_of_status (tick_tree (state s) (tree_of everyone paired l)).answer ≡ tick_list D l s
    state_agrees s = list_agrees paired A goal l s some

    pub list_works : FewestJobs t table l (tree_bytes paired l)
    list_works =
        list_serves everyone (list_fewest (tick_on table (tree_bytes paired l)) (λ s w. ap run_answer (state_tick everyone s w) ∙ state_agrees s))

  -- ---- the stops of a plan

  abbrev ending : Outcome Condition
  ending = fact_plan A goal capacity (ended_by until)

  -- a list that did not end as was asked is full, or every entry is expanded and the start is not covered
  abbrev NoWay : ℕ → ℕ → Type 0
  NoWay n p = (n ≡ 11) × (p ≡ length (entries ending)) × (listed_by until ending ≡ refused n p) × ((l : List (Entry Condition)) × (ending ≡ exhausted l))

  list_stops : (n p : ℕ) → listed_by until ending ≡ refused n p → ((n ≡ 10) × (p ≡ capacity)) ⊎ NoWay n p
  list_stops n p e₀ = by_end until ending refl e₀
    where
      by_end : (u : Until) (o : Outcome Condition) → ending ≡ o → listed_by u o ≡ refused n p → ((n ≡ 10) × (p ≡ capacity)) ⊎ NoWay n p
      by_end u (full l) q e =
          let size = planned_full (fact_plannable A goal) capacity (ended_by until) l q in
          let place : length l ≡ p = cc in
          inl (cc, omega (arith, size, place))
      by_end (U.Covers start) (exhausted l) q e = inr (cc, rw q (cc), e₀, (l, q))
      by_end U.Never (exhausted l) q e = absurd (not_both (sym e))
      by_end u (covered l) q e = absurd (not_both (sym e))

  -- of any kind of plan: it is one of these, or its trees do not fit
  pub kind_stops : {Told Trees : Type 0} (F : Finish Told Trees) (n p : ℕ) → (planned F paired until ending).answer ≡ refused n p
      → NoWay n p ⊎ ((n ≡ 10) × (p ≡ capacity))
      ⊎ ((n ≡ 12) × (p ≡ length (planned F paired until ending).list) × (F.fit (planned F paired until ending).list ≡ false))
  kind_stops F n p a =
      let same = (planned_list F paired until ending).0 in
      ⊎_elim (λ e. ⊎_elim (λ f. inr (inl f)) inl (list_stops n p e))
      (λ w. let q = listed_entries until ending w.0 w.1 ∙ sym same in inr (inr (w.2, w.3 ∙ ap length q, rw q at w.4)))
      (planned_refused F paired until ending n p a)

  module _ {Told : Type 0} (room : ℕ) (tell : List (Entry Condition) → Told) where
    pub plan_stops : (n p : ℕ) → (plan_by paired until room tell ending).answer ≡ refused n p
        → NoWay n p ⊎ NoRoom paired capacity room (plan_by paired until room tell ending).list n p
    plan_stops n p a =
        ⊎_elim inl (λ f. inr (⊎_elim inl (λ g. inr (g.0, g.1, leb-false _ _ g.2)) f)) (kind_stops (one_tree paired room tell) n p a)
