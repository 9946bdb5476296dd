-- Why a good list leads to the goal by the cheapest way, over any domain: the mathematics of demand 3 (document 01, "Work on a vehicle").
-- From a state whose first entry met is i, the run takes the path of entry i, since after each action the parent is the first entry met.
-- No rival is cheaper, since each sequence that reaches the goal shows, action by action from its end, an entry met that costs no more.
-- Assumes nothing: the laws of the domain and the facts of the list are parameters.
use Rattle.std.specs.Prelude.{◌≡◌, ◌⊎◌, T, take}
use Rattle.std.proofs.Math.Path.{refl}
use Rattle.std.proofs.Common.{sym, ap, ◌∙◌, subst, inl, inr, ⊎_elim, not-suc-le-zero, arith, T_not}
use mathlib.Core.List.{List, [], ◌∷◌}
use Prim.Native.Nat.{ℕ, zero, suc, ◌≤◌, ◌<◌}
use Rattle.std.proofs.Math.Decide.{dec_le}
use Rattle.base.specs.Bools.{by_cases}
use Rattle.planning.specs.Domain.{Domain, Laws}
use Rattle.planning.specs.Sequence.{Answer, success, running, total, Reaches, Run, named}
use Rattle.planning.specs.Listing.{Listing, path, answer_at, Covered, CoveredWithin, First, Derived, Good, Fresh, Closed, Optimal}
use Rattle.planning.proofs.PathLaws.{path_step as step_along}
use Rattle.planning.proofs.Logic.{below_suc}

-- ---- runs, over any tick

module _ {State Condition Action : Type 0} (D : Domain State Condition Action) where
  success_or_running : (tick : State → Answer Action) (s : State) (a : Action) → tick s ≡ success → tick s ≡ running a → ⊥
  success_or_running tick s a p q = let z : ◌≡◌ {A = ℕ} 0 1 = cc in omega arith

  -- ticks decide the run: a state has at most one
  pub run_unique : (tick : State → Answer Action) (s : State) (w v : List Action) → Run D tick s w → Run D tick s v → w ≡ v
  run_unique tick s [] [] r q = refl
  run_unique tick s [] (a ∷ v) r q = absurd (success_or_running tick s a r q.0)
  run_unique tick s (a ∷ w) [] r q = absurd (success_or_running tick s a q r.0)
  run_unique tick s (a ∷ w) (b ∷ v) r q =
      let e : a ≡ b = same r.0 q.0 in
      let t : w ≡ v = run_unique tick (D.result a s) w v r.2 (rw (← e) at q.2) in
      cc
    where
      same : tick s ≡ running a → tick s ≡ running b → a ≡ b
      same p q = cc

  -- and what ticks name from there is the run's, however many are asked for
  pub run_named : (tick : State → Answer Action) (s : State) (w : List Action) → Run D tick s w → (most : ℕ) → named D tick most s ≡ take most w
  unfolding named
  run_named tick s w r zero = refl
  run_named tick s [] r (suc most) = rw (r, named)
  run_named tick s (a ∷ w) r (suc most) = rw (r.0, named) (ap (λ (v : List Action). a ∷ v) (run_named tick (D.result a s) w r.2 most))

  -- a tick that answers alike in every state of a kind that actions keep to has the same runs
  pub run_transfer : (Kind : State → Type 0) → ((a : Action) (s : State) → T (D.applicable a s) → Kind s → Kind (D.result a s))
      → (tick tick' : State → Answer Action) → ((s : State) → Kind s → tick s ≡ tick' s) → (s : State) → Kind s → (w : List Action)
      → Run D tick s w → Run D tick' s w
  run_transfer Kind kept tick tick' alike s k [] r = sym (alike s k) ∙ r
  run_transfer Kind kept tick tick' alike s k (a ∷ w) r =
      (sym (alike s k) ∙ r.0, r.1, run_transfer Kind kept tick tick' alike (D.result a s) (kept a s r.1 k) w r.2)

-- ---- the first entry met

module _ {State Condition Action : Type 0} (D : Domain State Condition Action) (P : Listing Condition Action) (n : ℕ) where
  pub first_least : (s : State) (i k : ℕ) → First D P n s i → T (D.satisfies s (P.condition k)) → i ≤ k
  first_least s i k f m = elim (dec_le i k) [ yes l ↦ l | no g ↦ absurd (f.none_before k (omega arith) m) ]

  pub first_unique : (s : State) (i j : ℕ) → First D P n s i → First D P n s j → i ≡ j
  first_unique s i j f g = omega (arith, first_least s i j f g.met, first_least s j i g f.met)

  first_below : (s : State) (m : ℕ) → m ≤ n → ((i : ℕ) × First D P n s i) ⊎ ((k : ℕ) → k < m → T (D.satisfies s (P.condition k)) → ⊥)
  first_below s zero h = inr (λ k l. absurd (not-suc-le-zero l))
  first_below s (suc m) h = ⊎_elim inl here (first_below s m (omega arith))
    where
      here : ((k : ℕ) → k < m → T (D.satisfies s (P.condition k)) → ⊥)
          → ((i : ℕ) × First D P n s i) ⊎ ((k : ℕ) → k < suc m → T (D.satisfies s (P.condition k)) → ⊥)
      here none =
          by_cases (D.satisfies s (P.condition m))
          (λ t. inl (m, record { inside = h; met = t; none_before = none }))
          (λ t. inr (below_suc (λ k. T (D.satisfies s (P.condition k)) → ⊥) m none (T_not (D.satisfies s (P.condition m)) t)))

  -- a covered state has a first entry that it meets
  pub first_met : (s : State) → Covered D P n s → (i : ℕ) × First D P n s i
  first_met s c = ⊎_elim (λ r. r) (λ none. absurd (none c.at c.inside c.met)) (first_below s n (omega arith))

  pub first_covered : (s : State) (i : ℕ) → First D P n s i → Covered D P n s
  first_covered s i f = record { at = i; inside = f.inside; met = f.met }

  -- an entry is the first one met in a state that meets its condition, and of the earlier ones only parts of it
  pub irredundant_entry : Fresh D P n → (i : ℕ) → i < n → (s : State) → T (D.satisfies s (P.condition i))
      → ((k : ℕ) → k < i → T (D.satisfies s (P.condition k)) → T (D.weaker (P.condition k) (P.condition i))) → First D P n s i
  irredundant_entry fresh i h s met only = record { inside = h; met = met; none_before = λ k l m. fresh i k l h (only k l m) }

-- ---- a good list

module _ {State Condition Action : Type 0} (D : Domain State Condition Action) (P : Listing Condition Action) (n : ℕ) (G : Good D P n) where
  -- what holds of the goal's entry, and of an entry where it holds of its parent, holds of each entry
  pub by_parents : (Q : ℕ → Type 0) → Q 0 → ((i : ℕ) → suc i < n → Derived D P (suc i) → Q (P.parent (suc i)) → Q (suc i)) → (i : ℕ) → i < n → Q i
  by_parents Q base step i h = up_to i i (omega arith) h
    where
      up_to : (f i : ℕ) → i ≤ f → i < n → Q i
      up_to zero i le h = subst Q (omega arith) base
      up_to (suc f) zero le h = base
      up_to (suc f) (suc i) le h =
          let d = G.derived (suc i) (omega arith) h in
          let b = d.parent_before in
          step i h d (up_to f (P.parent (suc i)) (omega (arith, b)) (omega (arith, b)))

  -- what holds of the goal and is kept by regression holds of each condition of the list
  pub all_conditions : (Q : Condition → Type 0) → Q D.goal → ((a : Action) (c : Condition) → T (D.relevant a c) → Q c → Q (D.regress a c))
      → (i : ℕ) → i < n → Q (P.condition i)
  all_conditions Q base step =
      by_parents (λ i. Q (P.condition i)) (rw G.goal_first base) (λ i h d q. rw d.condition_regressed (step _ _ d.action_relevant q))

  -- the path of an entry is its action, and then the path of its parent
  pub path_step : (i : ℕ) → suc i < n → path P (suc i) ≡ P.action (suc i) ∷ path P (P.parent (suc i))
  path_step = step_along P n (λ i h. (G.derived (suc i) (omega arith) h).parent_before)

  -- the path of an entry costs what the entry says
  pub path_exact : (i : ℕ) → i < n → total D (path P i) ≡ P.cost i
  path_exact =
      by_parents (λ i. total D (path P i) ≡ P.cost i) (sym G.goal_free)
      (λ i h d q. let r : total D (path P (suc i)) ≡ total D (P.action (suc i) ∷ path P (P.parent (suc i))) = ap (total D) (path_step i h) in
      omega (arith, r, q, d.cost_added))

  module _ (L : Laws D) where
    -- the action of the first entry met is applicable
    pub first_applicable : (s : State) (i : ℕ) → 0 < i → First D P n s i → T (D.applicable (P.action i) s)
    first_applicable s i pos f =
        let d = G.derived i pos f.inside in
        L.regressed_applicable (P.action i) s (P.condition (P.parent i)) d.action_relevant (rw d.condition_regressed at f.met)

    nothing_before_parent : (s : State) (i : ℕ) → 0 < i → First D P n s i
        → (j : ℕ) → j < P.parent i → T (D.satisfies (D.result (P.action i) s) (P.condition j)) → ⊥
    nothing_before_parent s i pos f j lt m =
        let d = G.derived i pos f.inside in
        by_cases (D.relevant (P.action i) (P.condition j))
        (λ t.
        let b = L.regressed_held (P.action i) s (P.condition j) (first_applicable s i pos f) m t in
        let l = d.settled j lt t (L.satisfied_satisfiable s _ b) in
        f.none_before l.at l.inside (L.weaker_satisfied s _ _ l.is_weaker b))
        (λ t. f.none_before j (omega (arith, d.parent_before)) (L.irrelevant_kept (P.action i) s (P.condition j) (first_applicable s i pos f) m t))

    -- the parent of the first entry met is the first entry met after its action
    pub first_step : (s : State) (i : ℕ) → 0 < i → First D P n s i → First D P n (D.result (P.action i) s) (P.parent i)
    first_step s i pos f =
        let d = G.derived i pos f.inside in
        record {
          inside = omega (arith, d.parent_before, f.inside);
          met = L.relevant_achieves (P.action i) s (P.condition (P.parent i)) d.action_relevant (rw d.condition_regressed at f.met);
          none_before = nothing_before_parent s i pos f;
        }

    -- what holds at the goal's entry, and passes from a parent's path to the entry's, holds along the path of the first entry met
    along_path : (Q : State → List Action → Type 0) → ((s : State) → First D P n s 0 → Q s [])
        → ((s : State) (i : ℕ) (w : List Action) → First D P n s (suc i) → T (D.applicable (P.action (suc i)) s)
        → Q (D.result (P.action (suc i)) s) w → Q s (P.action (suc i) ∷ w))
        → (s : State) (i : ℕ) → First D P n s i → Q s (path P i)
    along_path Q base step s i f =
        by_parents (λ i. (s : State) → First D P n s i → Q s (path P i)) base
        (λ i h d q s f. rw (path_step i h)
        (step s i _ f (first_applicable s (suc i) (omega arith) f) (q (D.result (P.action (suc i)) s) (first_step s (suc i) (omega arith) f))))
        i f.inside s f

    pub path_reaches : (s : State) (i : ℕ) → First D P n s i → Reaches D s (path P i)
    path_reaches =
        along_path (Reaches D) (λ s f. record { executable = tt; at_goal = rw G.goal_first at f.met })
        (λ s i w f t r. record { executable = (t, r.executable); at_goal = r.at_goal })

    -- the run takes the path of the first entry met
    pub path_runs : (tick : State → Answer Action) → ((s : State) (i : ℕ) → First D P n s i → tick s ≡ answer_at P i)
        → (s : State) (i : ℕ) → First D P n s i → Run D tick s (path P i)
    path_runs tick answers = along_path (Run D tick) (λ s f. answers s 0 f) (λ s i w f t r. (answers s (suc i) f, t, r))

    -- each sequence that reaches the goal below the bound shows an entry met that costs no more
    pub covers : (bound : ℕ) → Closed D P n bound → (w : List Action) (s : State) → Reaches D s w → total D w < bound
        → CoveredWithin D P n (total D w) s
    covers bound C [] s r lt =
        record { covered = record { at = 0; inside = G.nonempty; met = rw G.goal_first r.at_goal }; cheap = omega (arith, G.goal_free) }
    covers bound C (a ∷ w) s r lt =
        let rest : Reaches D (D.result a s) w = record { executable = r.executable.1; at_goal = r.at_goal } in
        let m : CoveredWithin D P n (total D w) (D.result a s) = covers bound C w (D.result a s) rest (omega arith) in
        let c = m.covered in
        by_cases (D.relevant a (P.condition c.at))
        (λ t.
        let b = L.regressed_held a s (P.condition c.at) r.executable.0 c.met t in
        let k = C c.at c.inside a t (L.satisfied_satisfiable s _ b) (omega (arith, m.cheap)) in
        record {
          covered = record { at = k.subsumed.at; inside = k.subsumed.inside; met = L.weaker_satisfied s _ _ k.subsumed.is_weaker b };
          cheap = omega (arith, k.cheap, m.cheap);
        })
        (λ t. record {
          covered = record { at = c.at; inside = c.inside; met = L.irrelevant_kept a s _ r.executable.0 c.met t };
          cheap = omega (arith, m.cheap);
        })

    -- a list that is complete below the cost of the first entry met: no sequence that reaches the goal costs less than the entry
    pub optimal : (s : State) (i : ℕ) → First D P n s i → Closed D P n (P.cost i) → (w : List Action) → Reaches D s w → P.cost i ≤ total D w
    optimal s i f C w r = elim (dec_le (P.cost i) (total D w)) [ yes l ↦ l | no l ↦ absurd (cheaper (omega arith)) ]
      where
        cheaper : total D w < P.cost i → ⊥
        cheaper lt =
            let m : CoveredWithin D P n (total D w) s = covers (P.cost i) C w s r lt in
            omega (arith, m.cheap, G.rising i m.covered.at (first_least D P n s i m.covered.at f m.covered.met) m.covered.inside)

    -- a list that is complete below every cost covers each state from which a sequence reaches the goal
    pub complete : ((bound : ℕ) → Closed D P n bound) → (s : State) (w : List Action) → Reaches D s w → Covered D P n s
    complete C s w r = let m : CoveredWithin D P n (total D w) s = covers (suc (total D w)) (C (suc (total D w))) w s r (omega arith) in m.covered

    -- demand 3 for one state: the run, and all its rivals
    pub best : (tick : State → Answer Action) → ((s : State) (i : ℕ) → First D P n s i → tick s ≡ answer_at P i)
        → (s : State) (i : ℕ) → First D P n s i → (bound : ℕ) → P.cost i ≤ bound → Closed D P n bound → Optimal D P tick s i
    best tick answers s i f bound le C =
        record {
          run = path_runs tick answers s i f;
          shortest =
              record {
                reaches = path_reaches s i f;
                least = λ w r. omega (arith, path_exact i f.inside, optimal s i f (λ j jn a t l lt. C j jn a t l (omega arith)) w r);
              };
          exact = path_exact i f.inside;
        }
