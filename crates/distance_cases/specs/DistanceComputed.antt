-- The rows and the answers of DistanceCases.antt are those that the contract of `measure` gives: the rows by its agreement with the plan for the whole
-- shift, whose list is computed, so that no other row meets it.
-- Assumes nothing.
use Rattle.std.specs.Prelude.{ℕ, zero, suc, ◌<◌, ◌≡◌, true, false, not, length, get_or}
use native.Mathlib.Omega.{arith}
use Rattle.std.proofs.Math.Path.{refl}
use Rattle.std.proofs.Common.{sym, ◌∙◌, ext_get_or}
use mathlib.Core.List.{List, [], ◌∷◌}
use Rattle.std.proofs.Math.Dec.{T, T_not}
use Rattle.base.specs.Bools.{by_cases, is_true, is_false}
use Rattle.base.specs.Lists.{prefix, length_prefix, get_d_prefix}
use Rattle.masks.specs.Sets.{subset, intersects, union, difference, within}
use Rattle.refusal.specs.Checked.{Checked, accepted}
use Rattle.commands.specs.Commands.{width_of, command_at}
use Rattle.numbers.specs.Numbers.{from_bytes, to_bytes, number_at}
use Rattle.conditions.specs.declared.Condition.{Condition}
use Rattle.conditions.specs.Condition.{plain, weaker, consistent, satisfied, applied, relevant, regressed}
use Rattle.job.specs.Job.{job_at, job_bytes}
use Rattle.job.specs.Validation.{validated_job}
use Rattle.table.specs.Table.{Table, has_pair, jobs_bytes, goal_bytes, table_bytes}
use Rattle.table.specs.Read as Read
use Rattle.planning.specs.Domain.{Domain}
use Rattle.planning.specs.Expansion.{Entry, listed, expand_entry, expand_from, expand, entry_in}
use Rattle.planning.specs.Demand.{FirstIn, CoveredBy}
use Rattle.planning.specs.Facts.{Actions, unit_domain}
use Rattle.flat.specs.TreeBytes.{condition_bytes, leaf_bytes, first_bytes, entry_bytes, later_entries, own_tree}
use Rattle.builder.specs.declared.Size.{Size}
use Rattle.builder.specs.Plan.{table_plan}
use Rattle.shift_planner.specs.Shift.{plan_shift}
use Rattle.distance_steps.specs.Distance.{no_distance}
use Rattle.distances.specs.Measure.{checked_row, measured, Agrees, Measures}
use Rattle.marked_cases.specs.Trailer.{trailer, trailer_bytes}
use Rattle.marked_cases.specs.OneFactLess.{one_fact_less, one_fact_less_bytes}
use Rattle.marked_cases.specs.Cases.{lists, all, whole, less_whole}
use Rattle.distance_cases.specs.DistanceCases.{first_depth, trailer_row, one_fact_less_row, deleting, deleting_row, AnswersInOrder}

-- ---- a number that agrees with a list is the depth of the first entry met

module _ (A : Actions) (goal : Condition) (s : ℕ) where
  abbrev D : Domain ℕ Condition ℕ
  D = unit_domain A goal

  -- the first entry met, or none is
  data Met (l : List (Entry Condition)) : Type 0 where
    first : (i : ℕ) → FirstIn D l s i → (entry_in D l i).depth ≡ first_depth l s → Met l
    never : (CoveredBy D l s → ⊥) → first_depth l s ≡ no_distance → Met l

  search : (l : List (Entry Condition)) → Met l
  unfolding first_depth
  search [] = never (λ c. omega (arith, c.inside)) refl
  search (x ∷ l) =
      by_cases (satisfied x.condition s)
      (λ t. first 0 (record { inside = omega arith; met = t; none_before = λ k h m. omega arith }) (rw (is_true (satisfied x.condition s) t)))
      (λ n. later n (search l))
    where
      miss : T (not (satisfied x.condition s)) → T (satisfied x.condition s) → ⊥
      miss n t = T_not (satisfied x.condition s) n t

      later : T (not (satisfied x.condition s)) → Met l → Met (x ∷ l)
      later n (first i f e) =
          first (suc i) (record { inside = omega (arith, f.inside); met = f.met; none_before = before f }) (rw (is_false (satisfied x.condition s) n) e)
        where
          before : FirstIn D l s i → (k : ℕ) → k < suc i → T (D.satisfies s (entry_in D (x ∷ l) k).condition) → ⊥
          before f zero h m = miss n m
          before f (suc k) h m = f.none_before k (omega arith) m
      later n (never c e) = never (λ d. covered d.at d.inside d.met) (rw (is_false (satisfied x.condition s) n) e)
        where
          covered : (k : ℕ) → k < suc (length l) → T (D.satisfies s (entry_in D (x ∷ l) k).condition) → ⊥
          covered zero h m = miss n m
          covered (suc k) h m = c (record { at = k; inside = omega arith; met = m })

  agrees_depth : (l : List (Entry Condition)) (n : ℕ) → Agrees D l s n → n ≡ first_depth l s
  agrees_depth l n a = by_first (search l)
    where
      by_first : Met l → n ≡ first_depth l s
      by_first (first i f e) = a.first_depth_is i f ∙ e
      by_first (never c e) = a.none_met.1 c ∙ sym e

-- ---- the trailer's rows

-- a row that the contract gives has these numbers, where the list of the whole shift is known
row_by : (table before after : List ℕ) (t : Table) (n : ℕ) (p : Size) (l : List (Entry Condition)) (told : Checked ℕ) → Read.read_table table ≡ accepted t
    → measured table (length before) ≡ accepted n → length before ≡ n → (plan_shift table (lists 4096) all).answer ≡ accepted p → (plan_shift table (lists 4096) all).list ≡ l
    → Measures table before after told → after ≡ prefix (first_depth l) n
row_by table before after t n p l told read answer size planned list M =
    let C = M.holds t read n answer in
    ext_get_or 0 after (prefix (first_depth l) n) (M.sized ∙ size ∙ sym (length_prefix (first_depth l) n))
    (λ s h. let inside : s < n = omega (arith, h, M.sized, size) in
    agrees_depth _ _ s l (get_or after s 0) (rw list at (C.agrees (lists 4096) all p planned s inside)) ∙ sym (get_d_prefix (first_depth l) n s 0 inside))

record Computed (table : List ℕ) (t : Table) (n : ℕ) (p : Size) (l : List (Entry Condition)) (row : List ℕ) : Type 0 where
  pub read : Read.read_table table ≡ accepted t
  pub answer : measured table n ≡ accepted n
  pub planned : (plan_shift table (lists 4096) all).answer ≡ accepted p
  pub list : (plan_shift table (lists 4096) all).list ≡ l
  pub depths : prefix (first_depth l) n ≡ row

trailer_computed : Computed trailer_bytes trailer 32 (record { entries = 9; bytes = 125; paired = false }) whole trailer_row
unfolding plan_shift table_plan expand expand_from expand_entry listed weaker consistent satisfied applied relevant regressed subset intersects union difference within
    condition_bytes leaf_bytes first_bytes entry_bytes later_entries own_tree width_of command_at from_bytes to_bytes number_at has_pair Read.read_table Read.read_jobs
    Read.read_goal Read.read_end Read.due job_at validated_job checked_row first_depth
trailer_computed = record { read = refl; answer = refl; planned = refl; list = refl; depths = refl }

one_fact_less_computed : Computed one_fact_less_bytes one_fact_less 16 (record { entries = 8; bytes = 175; paired = true }) less_whole one_fact_less_row
unfolding plan_shift table_plan expand expand_from expand_entry listed weaker consistent satisfied applied relevant regressed subset intersects union difference within
    condition_bytes leaf_bytes first_bytes entry_bytes later_entries own_tree width_of command_at from_bytes to_bytes number_at has_pair Read.read_table Read.read_jobs
    Read.read_goal Read.read_end Read.due job_at validated_job checked_row first_depth
one_fact_less_computed = record { read = refl; answer = refl; planned = refl; list = refl; depths = refl }

deleting_computed : Computed (table_bytes deleting) deleting 4 (record { entries = 1; bytes = 13; paired = false }) (record { condition = plain 3; action = 255; parent = 0; depth = 0 } ∷ []) deleting_row
unfolding plan_shift table_plan expand expand_from expand_entry listed weaker consistent satisfied applied relevant regressed subset intersects union difference within
    condition_bytes leaf_bytes first_bytes entry_bytes later_entries own_tree width_of command_at from_bytes to_bytes number_at has_pair Read.read_table Read.read_jobs
    Read.read_goal Read.read_end Read.due job_at validated_job checked_row first_depth job_bytes jobs_bytes goal_bytes table_bytes
deleting_computed = record { read = refl; answer = refl; planned = refl; list = refl; depths = refl }

row_computed : {table : List ℕ} {t : Table} {n : ℕ} {p : Size} {l : List (Entry Condition)} {row : List ℕ} → Computed table t n p l row
    → (before after : List ℕ) (told : Checked ℕ) → length before ≡ n → Measures table before after told → after ≡ row
row_computed {table} {t} {n} {p} {l} {row} C before after told size M =
    row_by table before after t n p l told C.read (rw size C.answer) size C.planned C.list M ∙ C.depths

-- ---- all of it

pub record DistancesComputed : Type 0 where
  -- whatever stood in the row
  pub trailer_row_is : (before after : List ℕ) (told : Checked ℕ) → length before ≡ 32 → Measures trailer_bytes before after told → after ≡ trailer_row
  pub one_fact_less_row_is : (before after : List ℕ) (told : Checked ℕ) → length before ≡ 16 → Measures one_fact_less_bytes before after told → after ≡ one_fact_less_row
  pub deleting_row_is : (before after : List ℕ) (told : Checked ℕ) → length before ≡ 4 → Measures (table_bytes deleting) before after told → after ≡ deleting_row
  pub answers : AnswersInOrder

answers_computed : AnswersInOrder
unfolding checked_row subset intersects union within width_of command_at from_bytes to_bytes number_at Read.read_table Read.read_jobs Read.read_goal Read.read_end Read.due job_at
    validated_job goal_bytes jobs_bytes table_bytes
answers_computed =
    record {
      trailer = refl;
      one_fact_less_measured = refl;
      table_first = refl;
      after_table = refl;
      many_first = refl;
      many = refl;
      most = refl;
      too_short = refl;
      too_long = refl;
      no_row = refl;
    }

pub distances_computed : DistancesComputed
distances_computed =
    record {
      trailer_row_is = row_computed trailer_computed;
      one_fact_less_row_is = row_computed one_fact_less_computed;
      deleting_row_is = row_computed deleting_computed;
      answers = answers_computed;
    }
