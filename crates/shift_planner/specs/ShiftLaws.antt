-- Every plan for the whole shift keeps its promises.
-- Assumes nothing.
use Rattle.std.specs.Prelude.{ℕ, ◌≤◌, ◌≡◌, refl, Bool, false, List, ◌↔◌, length, Result}
use Rattle.std.proofs.Common.{arith, sym, ap, ◌∙◌, ⊎_elim}
use Rattle.refusal.specs.declared.Refusal.{Refusal}
use Rattle.refusal.specs.Checked.{accepted, refused, answer_of}
use Rattle.refusal.specs.CheckedLaws.{not_both, accepted_same}
use Rattle.conditions.specs.declared.Condition.{Condition}
use Rattle.conditions.specs.Condition.{plain}
use Rattle.numbers.specs.Numbers.{AreBytes}
use Rattle.table.specs.Table.{Table}
use Rattle.table.specs.Read.{read_table}
use Rattle.planning.specs.Sequence.{Reaches}
use Rattle.planning.specs.Columns.{max_entries}
use Rattle.planning.specs.Expansion.{Entry, Outcome, exhausted, covered, full, entries}
use Rattle.planning.specs.Demand.{CoveredBy}
use Rattle.planning.proofs.DemandLaws.{exhausted_nonempty}
use Rattle.planning.specs.Facts.{shift_plan}
use Rattle.planning.proofs.FactLaws.{fact_plannable, fact_covered_iff, fact_unending}
use Rattle.expander.specs.declared.Until.TheVariants.{Never}
use Rattle.expander.specs.Expands.{Columns, room, listed_by}
use Rattle.builder.specs.declared.Size.{Size}
use Rattle.builder.specs.Plan.{table_actions, table_domain, pairs, Plan, no_plan, plan_by, table_plan, size_of, WritesPlan}
use Rattle.builder.specs.PlanLaws.{columns_few, plan_list, whole_told}
use Rattle.builder.specs.Works.{FewestJobs, NoRoom}
use Rattle.builder.specs.WorksLaws.{separate, list_irredundant, list_works, plan_stops}
use Rattle.shift_planner.specs.Shift.{plan_shift, Serves, PlansShift}

-- nothing ends the list early, so every entry is expanded
exhausted_told : (o : Outcome Condition) (l : List (Entry Condition)) → ((m : List (Entry Condition)) → o ≡ covered m → ⊥) → listed_by Never o ≡ accepted l
    → o ≡ exhausted l
exhausted_told (full m) l u e = absurd (not_both e)
exhausted_told (exhausted m) l u e = ap exhausted (accepted_same e)
exhausted_told (covered m) l u e = absurd (u m refl)

never_11 : (o : Outcome Condition) (p : ℕ) → listed_by Never o ≡ refused 11 p → ⊥
never_11 (full l) p e = let z : ◌≡◌ {A = ℕ} 10 11 = cc in omega arith
never_11 (exhausted l) p e = not_both (sym e)
never_11 (covered l) p e = not_both (sym e)

module _ (table : List ℕ) (t : Table) (e : read_table table ≡ accepted t) (capacity : Bool → ℕ) (size : ℕ) where
  abbrev paired : Bool
  paired = pairs t

  abbrev most : ℕ
  most = capacity paired

  abbrev outcome : Outcome Condition
  outcome = shift_plan (table_actions t) (plain t.goal) most

  abbrev whole : Plan Size
  whole = plan_by paired Never size (size_of paired) outcome

  read : plan_shift table capacity size ≡ whole
  unfolding plan_shift table_plan
  read = rw e

  -- every entry of the list of an accepted plan is expanded
  ended : (p : Size) → whole.answer ≡ accepted p → outcome ≡ exhausted whole.list
  ended p a =
      let w = whole_told paired Never size (size_of paired) outcome p a in
      exhausted_told outcome w.list (fact_unending (table_actions t) (plain t.goal) most) w.listed ∙ ap exhausted (sym (ap (λ (P : Plan Size). P.list) w.plan_is))

  pub shift_ended : (p : Size) → (plan_shift table capacity size).answer ≡ accepted p → outcome ≡ exhausted (plan_shift table capacity size).list
  shift_ended p a = rw read (ended p (rw read at a))

  module _ (b : AreBytes table) (few : (paired : Bool) → capacity paired ≤ max_entries paired) where
    works : (p : Size) → whole.answer ≡ accepted p → FewestJobs t table whole.list whole.tree
    works p a =
        let w = whole_told paired Never size (size_of paired) outcome p a in
        let q = ended p a ∙ ap exhausted (ap (λ (P : Plan Size). P.list) w.plan_is) in
        rw w.plan_is (list_works table b t e most Never (few paired) w.list
        (exhausted_nonempty (fact_plannable (table_actions t) (plain t.goal)) most (λ c. false) w.list q) (ap entries q))

    covers : (p : Size) → whole.answer ≡ accepted p → (s : ℕ) → CoveredBy (table_domain t) whole.list s ↔ ((w : List ℕ) × Reaches (table_domain t) s w)
    covers p a = fact_covered_iff (table_actions t) (plain t.goal) most (λ c. false) (separate table b t e most Never) whole.list (ended p a)

    stops : (n p : ℕ) → whole.answer ≡ refused n p → NoRoom paired most size whole.list n p
    stops n p a =
        ⊎_elim (λ f. absurd (never_11 outcome p (rw f.0 at f.2))) (λ f. f) (plan_stops table b t e most Never size (size_of paired) n p a)

    pub every_shift : Serves t table capacity size (plan_shift table capacity size)
    every_shift =
        rw read (record {
          works = works;
          covers = covers;
          stops = stops;
          irredundant = rw (plan_list paired (size_of paired) Never size outcome) (list_irredundant table b t e most Never);
        })

-- ---- the parts of the code

module _ (table : List ℕ) (capacity : Bool → ℕ) (size : ℕ) where
  pub shift_refused : (n p : ℕ) → refused n p ≡ read_table table → no_plan n p ≡ plan_shift table capacity size
  unfolding plan_shift
  shift_refused n p e = rw (← e)

  pub shift_read : (t : Table) → accepted t ≡ read_table table → table_plan Never t capacity size (size_of (pairs t)) ≡ plan_shift table capacity size
  unfolding plan_shift
  shift_read t e = rw (← e)

pub shift_kept : (table : List ℕ) → AreBytes table → (before after : Columns) (lent tree : List ℕ) (r : (Result Size Refusal))
    → WritesPlan (plan_shift table (room before) (length lent)) before after lent tree (answer_of r) → PlansShift table before after lent tree r
shift_kept table b before after lent tree r w =
    record {
      writes = w;
      serves = λ t e. every_shift table t e (room before) (length lent) b (columns_few before);
    }
