-- The theorems of demand 3, for whatever list the expansion gives, over any domain in which each action costs 1.
-- Assumes nothing.
use Rattle.std.specs.Prelude.{◌≡◌, refl, Bool, not, ◌↔◌, T, length}
use Rattle.std.proofs.Common.{sym, ◌∙◌, subst, not-suc-le-zero, arith}
use mathlib.Core.List.{List, [], ◌∷◌}
use Prim.Native.Nat.{ℕ, zero, suc, ◌≤◌, ◌<◌}
use Rattle.std.proofs.Math.Dec.{not_T}
use Rattle.base.specs.Lists.{prefix}
use Rattle.planning.specs.Domain.{Domain, Laws, Plannable}
use Rattle.planning.specs.Sequence.{Answer, running, total, Reaches, Shortest, Run}
use Rattle.planning.specs.Listing.{path, answer_at, Good, Fresh, Optimal}
use Rattle.planning.proofs.Logic.{choice_true, choice_false}
use Rattle.planning.proofs.Theory.{run_unique, run_named, run_transfer, first_met, irredundant_entry, by_parents, all_conditions, path_exact, complete, best}
use Rattle.planning.specs.Expansion.{Entry, Outcome, exhausted, covered, full, entries, entry_in, expand, listing}
use Rattle.planning.specs.Progress.{Progress, Sound}
use Rattle.planning.proofs.ProgressLaws.{exhausted_closed, entry_closed}
use Rattle.planning.proofs.ExpansionLaws.{expand_sound, expand_cut}
use Rattle.planning.specs.Demand.{FirstIn, CoveredBy, tick_later, tick_list, Fewest}

module _ {State Condition : Type 0} (D : Domain State Condition ℕ) where
  -- ---- the tick of a list answers by the first entry met

  -- the first entry met is not the head of the list: it is the first one met of the rest
  module _ (x : Entry Condition) (l : List (Entry Condition)) (s : State) (i : ℕ) (f : FirstIn D (x ∷ l) s (suc i)) where
    head_unmet : T (not (D.satisfies s x.condition))
    head_unmet = not_T (D.satisfies s x.condition) (f.none_before 0 (omega arith))

    tail_first : FirstIn D l s i
    tail_first = record { inside = omega (arith, f.inside); met = f.met; none_before = λ k h. f.none_before (suc k) (omega arith) }

  later_first : (l : List (Entry Condition)) (s : State) (i : ℕ) → FirstIn D l s i → tick_later D l s ≡ running (entry_in D l i).action
  unfolding tick_later
  later_first [] s i f = absurd (not-suc-le-zero f.inside)
  later_first (x ∷ l) s zero f = choice_true (D.satisfies s x.condition) _ _ f.met
  later_first (x ∷ l) s (suc i) f = choice_false (D.satisfies s x.condition) _ _ (head_unmet x l s i f) ∙ later_first l s i (tail_first x l s i f)

  pub tick_first : (l : List (Entry Condition)) (s : State) (i : ℕ) → FirstIn D l s i → tick_list D l s ≡ answer_at (listing D l) i
  unfolding tick_list
  tick_first [] s i f = absurd (not-suc-le-zero f.inside)
  tick_first (x ∷ l) s zero f = choice_true (D.satisfies s x.condition) _ _ f.met
  tick_first (x ∷ l) s (suc i) f = choice_false (D.satisfies s x.condition) _ _ (head_unmet x l s i f) ∙ later_first l s i (tail_first x l s i f)

  -- the run decides what ticks name
  module _ (tick : State → Answer ℕ) (l : List (Entry Condition)) (s : State) where
    fewest_run : (i : ℕ) → FirstIn D l s i → Run D tick s (path (listing D l) i) → Shortest D length s (path (listing D l) i)
        → length (path (listing D l) i) ≡ (entry_in D l i).depth → Fewest D tick l s
    fewest_run i first run shortest exact =
        record {
          entry = i;
          first = first;
          run = run;
          shortest = shortest;
          exact = exact;
          names = run_named D tick s (path (listing D l) i) run;
          only = λ w r. run_unique D tick s w (path (listing D l) i) r run;
        }

  -- a tick that answers as the tick of the list does, in each state of a kind that actions keep to, has its runs
  pub fewest_transfer : (Kind : State → Type 0) → ((a : ℕ) (s : State) → T (D.applicable a s) → Kind s → Kind (D.result a s))
      → (tick tick' : State → Answer ℕ) → ((s : State) → Kind s → tick s ≡ tick' s) → (l : List (Entry Condition)) (s : State) → Kind s
      → Fewest D tick l s → Fewest D tick' l s
  fewest_transfer Kind kept tick tick' alike l s k f =
      fewest_run tick' l s f.entry f.first (run_transfer D Kind kept tick tick' alike s k (path (listing D l) f.entry) f.run) f.shortest f.exact

module _ {State Condition : Type 0} {D : Domain State Condition ℕ} {count : ℕ} (H : Plannable D count) (capacity : ℕ) (stop : Condition → Bool) where
  total_length : (w : List ℕ) → total D w ≡ length w
  total_length [] = refl
  total_length (a ∷ w) = omega (arith, H.unit_cost a, total_length w)

  -- ---- an outcome that is known to be sound

  abbrev Known : Outcome Condition → Type 0
  Known o = Sound D capacity stop (entry_in D (entries o)) o

  known_fits : (o : Outcome Condition) → Known o → length (entries o) ≤ capacity
  known_fits (exhausted l) k = k.fits
  known_fits (covered l) k = k.midway.fits
  known_fits (full l) k = omega (arith, k.size)

  -- its list was expanded so far
  known_progress : (o : Outcome Condition) → Known o → 0 < length (entries o)
      → (e : ℕ) × (a : ℕ) × Progress D (listing D (entries o)) (length (entries o)) e a
  known_progress (exhausted l) k h = (length l, 0, k.progress)
  known_progress (covered l) k h = let m = k.midway in (m.in_hand, m.tried, m.progress)
  known_progress (full l) k h = let m = k.midway h in (m.in_hand, m.tried, m.progress)

  known_best : Laws D → (o : Outcome Condition) → Known o → (s : State) (i : ℕ) → FirstIn D (entries o) s i
      → Optimal D (listing D (entries o)) (tick_list D (entries o)) s i
  known_best laws o k s i f =
      let l = entries o in
      let p = (known_progress o k (omega (arith, f.inside))).2 in
      best D (listing D l) (length l) p.good laws (tick_list D l) (tick_first D l) s i f ((listing D l).cost i) (omega arith)
      (entry_closed D (listing D l) p H.unit_cost i f.inside)

  known_fewest : Laws D → (o : Outcome Condition) → Known o → (s : State) → CoveredBy D (entries o) s → Fewest D (tick_list D (entries o)) (entries o) s
  known_fewest laws o k s c =
      let l = entries o in
      let f = first_met D (listing D l) (length l) s c in
      let b = known_best laws o k s f.0 f.1 in
      fewest_run D (tick_list D l) l s f.0 f.1 b.run
      (record {
        reaches = b.shortest.reaches;
        least = λ v r. omega (arith, b.shortest.least v r, total_length v, total_length (path (listing D l) f.0));
      })
      (sym (total_length (path (listing D l) f.0)) ∙ b.exact)

  -- ---- whatever the expansion gives

  abbrev planned : Outcome Condition
  planned = expand D count capacity stop

  known : Known planned
  known = expand_sound D count capacity stop H.unit_cost H.weaker_refl H.below_count

  -- demand 3: from each covered state the run reaches the goal, and no sequence has fewer actions
  pub fewest : Laws D → (s : State) → CoveredBy D (entries planned) s → Fewest D (tick_list D (entries planned)) (entries planned) s
  fewest laws = known_fewest laws planned known

  pub planned_fits : length (entries planned) ≤ capacity
  planned_fits = known_fits planned known

  -- a full list has as many entries as the capacity
  pub planned_full : (l : List (Entry Condition)) → planned ≡ full l → length l ≡ capacity
  planned_full l e = let k : Known (full l) = subst Known e known in k.size

  pub planned_good : 0 < length (entries planned) → Good D (listing D (entries planned)) (length (entries planned))
  planned_good h = (known_progress planned known h).2.good

  pub planned_fresh : Fresh D (listing D (entries planned)) (length (entries planned))
  planned_fresh i k ki il = (known_progress planned known (omega arith)).2.fresh i k ki il

  -- each beginning of the list is the plan for each stop that its last condition meets, and of the earlier ones only parts of it, if only there is room
  pub replan : (capacity' : ℕ) (stop' : Condition → Bool) (n : ℕ) → n < length (entries planned) → n < capacity'
      → T (stop' (entry_in D (entries planned) n).condition)
      → ((i : ℕ) → i < n → T (stop' (entry_in D (entries planned) i).condition)
      → T (D.weaker (entry_in D (entries planned) i).condition (entry_in D (entries planned) n).condition))
      → expand D count capacity' stop' ≡ covered (prefix (entry_in D (entries planned)) (suc n))
  replan capacity' stop' n inside fits met only =
      expand_cut D count capacity stop capacity' stop' n inside fits met (λ i h t. planned_fresh n i h inside (only i h t))

  -- each entry but the goal has an action of the table
  pub planned_action : (i : ℕ) → 0 < i → i < length (entries planned) → (entry_in D (entries planned) i).action < count
  planned_action i pos h = H.below_count _ _ ((planned_good (omega arith)).derived i pos h).action_relevant

  -- an entry is no deeper than its place
  pub planned_depth : (i : ℕ) → i < length (entries planned) → (entry_in D (entries planned) i).depth ≤ i
  planned_depth i h =
      let l = entries planned in
      let g = planned_good (omega arith) in
      by_parents D (listing D l) (length l) g (λ i. (entry_in D l i).depth ≤ i) (omega (arith, g.goal_free))
      (λ i b d q. omega (arith, q, d.cost_added, d.parent_before, H.unit_cost (entry_in D l (suc i)).action)) i h

  -- and its path has as many actions as it is deep
  pub planned_path : (i : ℕ) → i < length (entries planned) → length (path (listing D (entries planned)) i) ≡ (entry_in D (entries planned) i).depth
  planned_path i h =
      let l = entries planned in
      sym (total_length (path (listing D l) i)) ∙ path_exact D (listing D l) (length l) (planned_good (omega arith)) i h

  -- each condition has what the goal has and regression keeps
  pub planned_condition : (Q : Condition → Type 0) → Q D.goal → ((a : ℕ) (c : Condition) → T (D.relevant a c) → Q c → Q (D.regress a c))
      → (i : ℕ) → i < length (entries planned) → Q (entry_in D (entries planned) i).condition
  planned_condition Q base step i h =
      all_conditions D (listing D (entries planned)) (length (entries planned)) (planned_good (omega arith)) Q base step i h

  -- each condition is satisfiable, where the goal is
  pub planned_satisfiable : T (D.satisfiable D.goal) → (i : ℕ) → i < length (entries planned) → T (D.satisfiable (entry_in D (entries planned) i).condition)
  planned_satisfiable base zero h = rw (planned_good h).goal_first base
  planned_satisfiable base (suc i) h = ((planned_good (omega arith)).derived (suc i) (omega arith) h).condition_satisfiable

  -- an entry is the first one met in a state that meets its condition, and of the earlier ones only parts of it
  pub irredundant : (i : ℕ) → i < length (entries planned) → (s : State) → T (D.satisfies s (entry_in D (entries planned) i).condition)
      → ((k : ℕ) → k < i → T (D.satisfies s (entry_in D (entries planned) k).condition)
      → T (D.weaker (entry_in D (entries planned) k).condition (entry_in D (entries planned) i).condition))
      → FirstIn D (entries planned) s i
  irredundant = irredundant_entry D (listing D (entries planned)) (length (entries planned)) planned_fresh

  -- a list that ended has an entry
  pub covered_nonempty : (l : List (Entry Condition)) → planned ≡ covered l → 0 < length l
  covered_nonempty l e = let k : Known (covered l) = subst Known e known in omega (arith, k.size)

  -- it does not end early, where no condition ends it
  pub unending : ((c : Condition) → T (stop c) → ⊥) → (l : List (Entry Condition)) → planned ≡ covered l → ⊥
  unending never l e = let k : Known (covered l) = subst Known e known in never _ k.ends

  -- ---- a plan for a start

  -- it ends at the first entry that the start meets
  pub start_first : (start : State) → ((c : Condition) → stop c ≡ D.satisfies start c) → (l : List (Entry Condition)) → planned ≡ covered l
      → (i : ℕ) × (length l ≡ suc i) × FirstIn D l start i
  start_first start asks l e =
      let k : Known (covered l) = subst Known e known in
      (k.last, k.size, record { inside = omega (arith, k.size); met = rw asks at k.ends; none_before = λ i h m. k.unended i h (rw asks m) })

  -- ---- a list whose every entry is expanded

  module _ (l : List (Entry Condition)) (e : planned ≡ exhausted l) where
    known_exhausted : Known (exhausted l)
    known_exhausted = subst Known e known

    pub exhausted_nonempty : 0 < length l
    exhausted_nonempty = known_exhausted.progress.good.nonempty

    -- each state from which a sequence reaches the goal is covered
    pub covers_all : Laws D → (s : State) (w : List ℕ) → Reaches D s w → CoveredBy D l s
    covers_all laws =
        let p = known_exhausted.progress in
        complete D (listing D l) (length l) p.good laws (exhausted_closed D (listing D l) p H.unit_cost refl)

    -- document 01's no way: nothing reaches the goal from a start whose conditions the stop looks for
    pub no_way : Laws D → (start : State) → ((c : Condition) → T (D.satisfies start c) → T (stop c)) → (w : List ℕ) → Reaches D start w → ⊥
    no_way laws start asks w r = let c = covers_all laws start w r in known_exhausted.unended c.at c.inside (asks _ c.met)

    -- covered is the same as having a way
    pub covered_iff : Laws D → (s : State) → CoveredBy D l s ↔ ((w : List ℕ) × Reaches D s w)
    covered_iff laws s =
        ((λ c. let f = known_fewest laws (exhausted l) known_exhausted s c in (path (listing D l) f.entry, f.shortest.reaches)), (λ r. covers_all laws s r.0 r.1))

    -- a number of actions that is reached and least is the depth of the first entry met
    pub distance : Laws D → (s : State) (i : ℕ) → FirstIn D l s i → (d : ℕ) (w : List ℕ) → Reaches D s w → length w ≡ d
        → ((v : List ℕ) → Reaches D s v → d ≤ length v) → d ≡ (entry_in D l i).depth
    distance laws s i f d w r wd least =
        let b = known_best laws (exhausted l) known_exhausted s i f in
        omega (
          arith,
          b.shortest.least w r,
          total_length w,
          least (path (listing D l) i) b.shortest.reaches,
          total_length (path (listing D l) i),
          b.exact,
        )
