-- The parts of the code: the actions of a table, and the answers.
-- Assumes nothing.
use Rattle.std.specs.Prelude.{ℕ, ◌≤◌, ◌<◌, ◌^◌, ◌≡◌, Bool, List, map, leb, eqb, length, get_or, take, if◌then◌else◌}
use Rattle.std.proofs.Common.{arith, sym, ap, ◌∙◌, true≢false, pow_mono}
use Rattle.std.proofs.Math.Path.{refl}
use Rattle.std.proofs.Math.Bool.{true, false}
use borrow.Author.Tests.{leb-true, eqb-true, le-leb, lt-leb, eq-eqb, ne_eqb}
use Rattle.std.proofs.lemmas.List.{length-map}
use Rattle.std.proofs.Math.ListN.{get_or-map}
use Rattle.masks.specs.Laws.{within_lt, lt_within}
use Rattle.refusal.specs.Checked.{Checked, accepted, refused}
use Rattle.refusal.specs.CheckedLaws.{not_both, accepted_same}
use Rattle.numbers.specs.Numbers.{AreBytes}
use Rattle.conditions.specs.declared.Action.{Action}
use Rattle.conditions.specs.Condition.{plain, applied}
use Rattle.conditions.specs.ConditionLaws.{applied_within}
use Rattle.job.specs.Job.{no_job, action_of}
use Rattle.table.specs.declared.Header.{Header}
use Rattle.table.specs.Table.{Table}
use Rattle.table.specs.Read.{read_table, jobs_of, headed}
use Rattle.table.proofs.RoundTripLaws.{read_sound}
use Rattle.expander.specs.declared.Until.TheVariants.{Never}
use Rattle.expander.specs.Expands.{actions_in}
use Rattle.builder.specs.Plan.{table_actions, table_domain}
use Rattle.builder.specs.RowLaws.{same_header, loaded_actions}
use Rattle.builder.specs.WorksLaws.{within_facts, separate}
use Rattle.shift_planner.specs.Shift.{plan_shift}
use Rattle.shift_planner.specs.ShiftLaws.{shift_ended}
use Rattle.distance_steps.specs.Distance.{Distance}
use Rattle.distance_steps.specs.Steps.{ActionsFit}
use Rattle.distance_sweeps.specs.Sweeps.{Distances}
use Rattle.distances.specs.Measure.{most_facts, checked_row, measured, HoldsDistances, Measures}
use Rattle.distances.specs.AgreeLaws.{distance_agrees}

-- ---- the actions of a table

module _ (s : List ℕ) (b : AreBytes s) (t : Table) (e : read_table s ≡ accepted t) where
  -- no job leads out of the states
  stays : (a k : ℕ) → a < length t.jobs → k < 2 ^ t.facts → applied ((table_actions t).action a) k < 2 ^ t.facts
  stays a k h l =
      within_lt t.facts _ (applied_within t.facts ((table_actions t).action a) ((within_facts s b t e 0 Never).actions_within a h) k (lt_within t.facts k l))

  actions_fit : t.facts ≤ most_facts → ActionsFit (map action_of t.jobs) (2 ^ t.facts)
  actions_fit few =
      let size = length-map t.jobs action_of in
      record {
        few_actions = omega (arith, size, (read_sound s b t e).few);
        few_states = pow_mono few;
        stays = λ a h k l m. rw (get_or-map action_of t.jobs a no_job) (stays a k (omega (arith, size)) l);
      }

module _ (s : List ℕ) (b : AreBytes s) (h : Header) (e : accepted h ≡ headed (read_table s)) (t : Table) (r : accepted t ≡ read_table s)
    (actions : List Action) (loaded : actions ≡ map action_of (jobs_of (read_table s))) where
  pub fits_table : h.facts ≤ most_facts → ActionsFit actions (2 ^ h.facts)
  fits_table few =
      let same = ap (λ (x : Header). x.facts) (sym (same_header s b h e t r)) in
      rw (loaded, ← r, same) (actions_fit s b t (sym r) (omega (arith, same)))

  pub distances_table : (before after : List ℕ) → Distances (actions_in actions) (plain h.goal) before after → Distances (table_actions t) (plain t.goal) before after
  distances_table before after d =
      let goal = ap (λ (x : Header). x.goal) (sym (same_header s b h e t r)) in
      rw (loaded_actions s b h e t r actions loaded, goal) at d

-- ---- the checks

module _ (facts size : ℕ) where
  pub facts_many : most_facts < facts → refused 25 0 ≡ checked_row facts size
  unfolding checked_row
  facts_many h = rw (lt-leb facts most_facts h)

  module _ (few : facts ≤ most_facts) where
    pub length_fits : size ≡ 2 ^ facts → accepted (2 ^ facts) ≡ checked_row facts size
    unfolding checked_row
    length_fits e = rw (le-leb facts most_facts few, eq-eqb size (2 ^ facts) e)

    pub length_other : (size ≡ 2 ^ facts → ⊥) → refused 26 0 ≡ checked_row facts size
    unfolding checked_row
    length_other q = rw (le-leb facts most_facts few, ne_eqb size (2 ^ facts) q)

  -- what an accepted row says of them
  pub row_fits : (n : ℕ) → accepted n ≡ checked_row facts size → (facts ≤ most_facts) × (size ≡ 2 ^ facts) × (n ≡ 2 ^ facts)
  unfolding checked_row
  row_fits n e = by_facts (leb facts most_facts) (leb-true facts most_facts) (eqb size (2 ^ facts)) (eqb-true size (2 ^ facts)) e
    where
      by_facts : (f : Bool) → (f ≡ true → facts ≤ most_facts) → (q : Bool) → (q ≡ true → size ≡ 2 ^ facts)
          → accepted n ≡ (if f then (if q then accepted (2 ^ facts) else refused 26 0) else refused 25 0) → (facts ≤ most_facts) × (size ≡ 2 ^ facts) × (n ≡ 2 ^ facts)
      by_facts true few true same e = (few refl, same refl, accepted_same e)
      by_facts true few false same e = absurd (not_both (sym e))
      by_facts false few q same e = absurd (not_both (sym e))

-- a row of which the states are told has as many numbers
pub measured_whole : (table : List ℕ) (t : Table) → read_table table ≡ accepted t → (size n : ℕ) → measured table size ≡ accepted n → size ≡ n
measured_whole table t read size n e =
    let told : accepted n ≡ checked_row t.facts size = sym e ∙ rw read in
    let (few, whole, states) = row_fits t.facts size n told in
    whole ∙ sym states

-- ---- the answers

module _ (table before : List ℕ) where
  -- nothing was written
  nothing : (told : Checked ℕ) → told ≡ measured table (length before) → ((n : ℕ) → told ≡ accepted n → ⊥) → Measures table before before told
  nothing told e never = record { answer = e; sized = refl; holds = λ t read n a. absurd (never n (e ∙ a)); untouched = λ n p q. refl }

  pub measures_table_bad : (number place : ℕ) → refused number place ≡ read_table table → Measures table before before (refused number place)
  measures_table_bad number place e = nothing (refused number place) (rw (← e)) (λ n a. not_both a)

  module _ (t : Table) (read : accepted t ≡ read_table table) where
    pub measures_row_bad : (told : Checked ℕ) (number place : ℕ) → told ≡ refused number place → told ≡ checked_row t.facts (length before)
        → Measures table before before told
    measures_row_bad told number place is e = nothing told (rw (← read) e) (λ n a. not_both (sym is ∙ a))

    -- every state has its distance
    pub measures_all : AreBytes table → (after : List ℕ) (told : Checked ℕ) (n : ℕ) → told ≡ accepted n → told ≡ checked_row t.facts (length before)
        → Distances (table_actions t) (plain t.goal) before after → Measures table before after told
    measures_all b after told n is e d =
        record {
          answer = whole;
          sized = d.sized;
          holds = holds;
          untouched = λ number place q. absurd (not_both (sym q ∙ sym whole ∙ is));
        }
      where
        whole : told ≡ measured table (length before)
        whole = rw (← read) e

        each : (k : ℕ) → k < n → Distance (table_domain t) k (get_or after k 0)
        each k h = d.each k (omega (arith, d.sized, row_fits t.facts (length before) n (sym is ∙ e)))

        here : HoldsDistances t table n after
        here =
            record {
              distances = each;
              agrees = λ capacity room p planned k h.
                  distance_agrees (table_actions t) (plain t.goal) (separate table b t (sym read) 0 Never) _ (λ c. false) (plan_shift table capacity room).list
                  (shift_ended table t (sym read) capacity room p planned) k _ (each k h);
            }

        holds : (u : Table) → read_table table ≡ accepted u → (m : ℕ) → measured table (length before) ≡ accepted m → HoldsDistances u table m after
        holds u r m a = rw (sym (accepted_same (read ∙ r)), sym (accepted_same (sym is ∙ whole ∙ a))) here
