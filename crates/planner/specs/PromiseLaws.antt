-- Every plan for a start keeps its promises.
-- Assumes nothing.
use Rattle.std.specs.Prelude.{ℕ, suc, ◌-◌, ◌≤◌, ◌≡◌, Bool, true, List, [], ◌⊎◌, length, Result}
use Rattle.std.proofs.Common.{not-suc-le-zero, arith, sym, ap, ◌∙◌, subst, ⊎_elim, inl, inr}
use Rattle.base.specs.Bools.{holds}
use Rattle.refusal.specs.declared.Refusal.{Refusal}
use Rattle.refusal.specs.Checked.{Checked, accepted, refused, and_then, answer_of}
use Rattle.refusal.specs.CheckedLaws.{not_both}
use Rattle.reading.specs.declared.Reading.{Reading}
use Rattle.reading.specs.Reading.{sound}
use Rattle.reading.specs.ReadingLaws.{sound_held, start_cases, start_sound}
use Rattle.conditions.specs.declared.Condition.{Condition}
use Rattle.conditions.specs.Condition.{plain}
use Rattle.numbers.specs.Numbers.{AreBytes}
use Rattle.table.specs.Table.{Table}
use Rattle.table.specs.Read.{read_table}
use Rattle.planning.specs.Sequence.{Reaches}
use Rattle.planning.specs.Columns.{max_entries}
use Rattle.planning.specs.Listing.{path}
use Rattle.planning.specs.Expansion.{Outcome, entries, listing}
use Rattle.planning.specs.Demand.{FirstIn}
use Rattle.planning.specs.Facts.{start_plan}
use Rattle.planning.proofs.FactLaws.{fact_start_first, fact_no_way}
use Rattle.expander.specs.declared.Until.TheVariants.{Covers}
use Rattle.expander.specs.Expands.{Columns, room}
use Rattle.runs.specs.Runs.{tick_on}
use Rattle.builder.specs.Plan.{table_actions, table_domain, pairs, Plan, no_plan, plan_by, table_plan, after_checks, WritesPlan}
use Rattle.builder.specs.PlanLaws.{covered_told, columns_few, plan_list, whole_told}
use Rattle.builder.specs.Works.{FewestJobs, Irredundant, NoRoom}
use Rattle.builder.specs.WorksLaws.{separate, list_irredundant, list_works, plan_stops}
use Rattle.planner.specs.declared.Summary.{Summary}
use Rattle.planner.specs.Plan.{way_of, summary_of, start_for, plan_for}
use Rattle.planner.specs.PlanLaws.{way_is_path}
use Rattle.planner.specs.Promise.{Keeps, Plans}

-- Of a table that was read, a start, and room for so many entries and so many bytes of a tree:
module _ (table : List ℕ) (b : AreBytes table) (t : Table) (e : read_table table ≡ accepted t) (start : Reading) (capacity : Bool → ℕ) (size : ℕ)
    (few : (paired : Bool) → capacity paired ≤ max_entries paired) where
  abbrev paired : Bool
  paired = pairs t

  abbrev most : ℕ
  most = capacity paired

  abbrev outcome : Outcome Condition
  outcome = start_plan (table_actions t) (plain t.goal) most start.held

  abbrev whole : Plan Summary
  whole = plan_by paired (Covers start.held) size (summary_of (tick_on table) t start.held) outcome

  -- what holds of the plan of a start that is sound holds of every plan, where it holds of none
  by_checks : (P : Plan Summary → Type 0) → P (no_plan 8 0) → P (no_plan 9 0) → (sound t.facts start ≡ true → P whole) → P (plan_for table start capacity size)
  unfolding plan_for start_for table_plan
  by_checks P bad unread w =
      rw e (start_cases t.facts start (λ c. P (after_checks (and_then c λ r. accepted t) λ t.
      plan_by (pairs t) (Covers start.held) size (summary_of (tick_on table) t start.held)
      (start_plan (table_actions t) (plain t.goal) (capacity (pairs t)) start.held))) bad unread w)

  checked : sound t.facts start ≡ true → start.unread ≡ 0 → plan_for table start capacity size ≡ whole
  unfolding plan_for start_for table_plan
  checked s u = rw (e, ← start_sound t.facts start s u)

  works : (p : Summary) → whole.answer ≡ accepted p → FewestJobs t table whole.list whole.tree
  works p a =
      let w = whole_told paired (Covers start.held) size (summary_of (tick_on table) t start.held) outcome p a in
      let c = covered_told start.held outcome w.list w.listed in
      let n = fact_start_first (table_actions t) (plain t.goal) most start.held w.list c in
      rw w.plan_is (list_works table b t e most (Covers start.held) (few paired) w.list (omega (arith, n.1)) (ap entries c))

  begins : (p : Summary) → whole.answer ≡ accepted p → (i : ℕ) × (p.entries ≡ suc i) × FirstIn (table_domain t) whole.list start.held i
  begins p a =
      let w = whole_told paired (Covers start.held) size (summary_of (tick_on table) t start.held) outcome p a in
      let n = fact_start_first (table_actions t) (plain t.goal) most start.held w.list (covered_told start.held outcome w.list w.listed) in
      rw w.plan_is (n.0, ap (λ (x : Summary). x.entries) w.told_is ∙ n.1, n.2)

  way : sound t.facts start ≡ true → (p : Summary) → whole.answer ≡ accepted p
      → way_of (tick_on table) t start.held whole.list ≡ path (listing (table_domain t) whole.list) (p.entries - 1)
  way s p a =
      let w = whole_told paired (Covers start.held) size (summary_of (tick_on table) t start.held) outcome p a in
      let c = covered_told start.held outcome w.list w.listed in
      rw w.plan_is (way_is_path table b t e start.held (sound_held t.facts start (holds _ s)) most (few paired) w.list c
      ∙ ap (λ (x : Summary). path (listing (table_domain t) w.list) (x.entries - 1)) (sym w.told_is))

  no_way : (p : ℕ) → whole.answer ≡ refused 11 p → (w : List ℕ) → Reaches (table_domain t) start.held w → ⊥
  no_way p a =
      ⊎_elim (λ f. fact_no_way (table_actions t) (plain t.goal) most start.held (separate table b t e most (Covers start.held)) f.3.0 f.3.1) (λ f. absurd (other f))
      (plan_stops table b t e most (Covers start.held) size (summary_of (tick_on table) t start.held) 11 p a)
    where
      other : NoRoom paired most size whole.list 11 p → ⊥
      other f = ⊎_elim (λ g. omega (arith, g.0)) (λ g. omega (arith, g.0)) f

  stops : (n p : ℕ) → whole.answer ≡ refused n p → ((n ≡ 11) × (p ≡ length whole.list)) ⊎ NoRoom paired most size whole.list n p
  stops n p a =
      ⊎_elim (λ f. inl (f.0, f.1 ∙ ap length (sym (plan_list paired (summary_of (tick_on table) t start.held) (Covers start.held) size outcome)))) inr
      (plan_stops table b t e most (Covers start.held) size (summary_of (tick_on table) t start.held) n p a)

  pub every_plan : Keeps t table start capacity size (plan_for table start capacity size)
  every_plan =
      record {
        works = λ p. by_checks (λ P. P.answer ≡ accepted p → FewestJobs t table P.list P.tree) (λ a. absurd (not_both a)) (λ a. absurd (not_both a)) (λ s. works p);
        stops = λ s u n p.
            subst (λ P. P.answer ≡ refused n p → ((n ≡ 11) × (p ≡ length P.list)) ⊎ NoRoom paired most size P.list n p) (sym (checked s u)) (stops n p);
        no_way = λ p.
            by_checks (λ P. P.answer ≡ refused 11 p → (w : List ℕ) → Reaches (table_domain t) start.held w → ⊥) (λ a. absurd (not_11 8 p a (omega arith)))
            (λ a. absurd (not_11 9 p a (omega arith))) (λ s. no_way p);
        start_covered = λ p.
            by_checks (λ P. P.answer ≡ accepted p → (i : ℕ) × (p.entries ≡ suc i) × FirstIn (table_domain t) P.list start.held i)
            (λ a. absurd (not_both a)) (λ a. absurd (not_both a)) (λ s. begins p);
        way = λ p.
            by_checks (λ P. P.answer ≡ accepted p → way_of (tick_on table) t start.held P.list ≡ path (listing (table_domain t) P.list) (p.entries - 1))
            (λ a. absurd (not_both a)) (λ a. absurd (not_both a)) (λ s. way s p);
        irredundant =
            by_checks (λ P. Irredundant t P.list) none none
            (λ s. rw (plan_list paired (summary_of (tick_on table) t start.held) (Covers start.held) size outcome) (list_irredundant table b t e most (Covers start.held)));
      }
    where
      none : Irredundant t []
      none plain i h = absurd (not-suc-le-zero h)

      not_11 : (n p : ℕ) → ◌≡◌ {A = Checked Summary} (refused n 0) (refused 11 p) → (n ≡ 11 → ⊥) → ⊥
      not_11 n p a k = k (cc)

pub plan_kept : (table : List ℕ) → AreBytes table → (start : Reading) (before after : Columns) (lent tree : List ℕ) (r : (Result Summary Refusal))
    → WritesPlan (plan_for table start (room before) (length lent)) before after lent tree (answer_of r) → Plans table start before after lent tree r
plan_kept table b start before after lent tree r w =
    record {
      writes = w;
      keeps = λ t e. every_plan table b t e start (room before) (length lent)
          (columns_few before);
    }
