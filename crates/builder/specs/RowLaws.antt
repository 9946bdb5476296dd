-- The loaded actions of a table's jobs, and what an expansion over them is.
-- Assumes nothing.
use Rattle.std.specs.Prelude.{take, ℕ, ◌≤◌, ◌≡◌, refl, Bool, true, false, List, [], map, ltb, length, get_or}
use Rattle.std.proofs.Common.{arith, sym, ap, ◌∙◌, lt-ltb, length-take-le}
use Rattle.std.proofs.Math.Path.{fun_ext}
use Rattle.std.proofs.lemmas.List.{length-map}
use Rattle.std.proofs.Math.ListN.{get_or-map}
use Rattle.base.specs.Bools.{is_false}
use Rattle.refusal.specs.Checked.{Checked, accepted}
use Rattle.refusal.specs.CheckedLaws.{accepted_same}
use Rattle.numbers.specs.Numbers.{AreBytes}
use Rattle.conditions.specs.declared.Action.{Action}
use Rattle.conditions.specs.Condition.{plain, action_at}
use Rattle.job.specs.declared.Job.{Job}
use Rattle.job.specs.Job.{no_job, action_of}
use Rattle.table.specs.declared.Header.{Header}
use Rattle.table.specs.Table.{Table, max_jobs}
use Rattle.table.specs.Read.{read_table, jobs_of, header_of, headed}
use Rattle.table.proofs.ReadLaws.{headed_sound}
use Rattle.table.proofs.PairLaws.{pair_some, pair_none}
use Rattle.table.proofs.RoundTripLaws.{read_sound, read_storable}
use Rattle.job_rows.specs.Rows.{Loads}
use Rattle.job_rows.specs.RowLaws.{loads_whole}
use Rattle.planning.specs.Facts.{Actions}
use Rattle.expander.specs.declared.Expanded.{Expanded}
use Rattle.expander.specs.declared.Until.{Until}
use Rattle.expander.specs.Expands.{Columns, actions_in, actions_for, Unasked, actions_of, Expands, if_paired}
use Rattle.expander.specs.ExpandsLaws.{for_all, count_rows}
use Rattle.builder.specs.Plan.{job_of, table_actions, pairs}

-- ---- the list of a table's actions

same_actions : {n m : ℕ} {f g : ℕ → Action} → n ≡ m → f ≡ g → ◌≡◌ {A = Actions} (record { count = n; action = f }) (record { count = m; action = g })
same_actions a b = rw (a, b)

pub listed_actions : (t : Table) → length t.jobs ≤ max_jobs → actions_in (map action_of t.jobs) ≡ table_actions t
listed_actions t few =
    same_actions (omega (arith, few, length-map t.jobs action_of)) (fun_ext (λ a. get_or-map action_of t.jobs a no_job))

-- ---- rows of a table's masks hold its actions

abbrev pub needs : List Job → List ℕ
needs jobs = map (λ j. (action_of j).needs) jobs

abbrev pub adds : List Job → List ℕ
adds jobs = map (λ j. (action_of j).adds) jobs

abbrev pub deletes : List Job → List ℕ
deletes jobs = map (λ j. (action_of j).deletes) jobs

row_mask : (field : Job → ℕ) (jobs : List Job) (a : ℕ) → field no_job ≡ 0 → get_or (map field jobs) a 0 ≡ field (get_or jobs a no_job)
row_mask field jobs a z = ap (get_or (map field jobs) a) (sym z) ∙ get_or-map field jobs a no_job

-- the row of absent facts, which is lent for a table with a 0x21 alone
abbrev pub absents : Bool → List Job → List ℕ
absents true jobs = map (λ j. (action_of j).absent) jobs
absents false jobs = []

module _ (jobs : List Job) (paired : Bool) (none : paired ≡ false → (a : ℕ) → (get_or jobs a no_job).absent ≡ 0) where
  absent_mask : (a : ℕ) → get_or (absents paired jobs) a 0 ≡ (get_or jobs a no_job).absent
  absent_mask = by_kind paired none
    where
      by_kind : (p : Bool) → (p ≡ false → (a : ℕ) → (get_or jobs a no_job).absent ≡ 0) → (a : ℕ) → get_or (absents p jobs) a 0 ≡ (get_or jobs a no_job).absent
      by_kind true n a = row_mask (λ j. (action_of j).absent) jobs a refl
      by_kind false n a = sym (n refl a)

  row_action : (a : ℕ) → action_at (needs jobs) (absents paired jobs) (adds jobs) (deletes jobs) a ≡ action_of (get_or jobs a no_job)
  row_action a =
      rw (
        row_mask (λ j. (action_of j).needs) jobs a refl,
        absent_mask a,
        row_mask (λ j. (action_of j).adds) jobs a refl,
        row_mask (λ j. (action_of j).deletes) jobs a refl,
      )

pub rows_actions : (t : Table) (paired : Bool) → (paired ≡ false → (a : ℕ) → (get_or t.jobs a no_job).absent ≡ 0) → length t.jobs ≤ max_jobs
    → actions_of (needs t.jobs) (absents paired t.jobs) (adds t.jobs) (deletes t.jobs) ≡ table_actions t
rows_actions t paired none few =
    same_actions
    (rw (length-map t.jobs (λ j. (action_of j).needs), length-map t.jobs (λ j. (action_of j).adds), length-map t.jobs (λ j. (action_of j).deletes))
    (count_rows (length t.jobs) few))
    (fun_ext (row_action t.jobs paired none))

-- a table without a 0x21 has no job that needs a fact absent
pub no_absent : (s : List ℕ) → AreBytes s → (t : Table) → read_table s ≡ accepted t → pairs t ≡ false → (a : ℕ) → (job_of t a).absent ≡ 0
no_absent s b t e none a = ((read_storable s b t e).jobs_fit a).unpaired (pair_none t.jobs none a)

-- ---- what a table's header tells of the table that was read

module _ (s : List ℕ) (b : AreBytes s) (h : Header) (e : accepted h ≡ headed (read_table s)) where
  pub header_count : h.jobs ≡ length (jobs_of (read_table s))
  header_count =
      let f = headed_sound (read_table s) e in
      ap (λ x. x.jobs) (sym f.2) ∙ ap (λ (r : Checked Table). length (jobs_of r)) f.1

  pub header_few : h.jobs ≤ 128
  header_few =
      let f = headed_sound (read_table s) e in
      omega (arith, ap (λ x. x.jobs) f.2, (read_sound s b f.0 (sym f.1)).few)

  -- where it says that there is a 0x21, there is a job
  header_some : h.paired ≡ true → 1 ≤ h.jobs
  header_some p =
      let f = headed_sound (read_table s) e in
      omega (arith, ap (λ x. x.jobs) f.2, pair_some f.0.jobs (ap (λ x. x.paired) f.2 ∙ p))

  -- so the row of absent facts is lent where it says so, and only there
  pub row_lent : (used : ℕ) → used ≡ if_paired h.paired h.jobs → (absent : List ℕ) → h.jobs ≤ length absent → ltb 0 (length (take used absent)) ≡ h.paired
  row_lent used u absent l = rw u (by_kind h.paired refl)
    where
      by_kind : (p : Bool) → h.paired ≡ p → ltb 0 (length (take (if_paired p h.jobs) absent)) ≡ p
      by_kind true q = lt-ltb 0 (length (take h.jobs absent)) (omega (arith, length-take-le h.jobs absent l, header_some q))
      by_kind false q = refl

  -- a row of which it is told how many jobs were loaded has them all
  pub header_whole : {A : Type 0} {Part : Job → A → Type 0} {before row : List A} → Loads Part (jobs_of (read_table s)) h.jobs before row
      → length before ≡ 128 → (part : Job → A) → ((j : Job) (x : A) → Part j x → x ≡ part j) → take h.jobs row ≡ map part (jobs_of (read_table s))
  header_whole L size part is = loads_whole L part is header_count (omega (arith, size, header_few))

  -- where it says that there is no 0x21, no job needs a fact absent
  pub header_unasked : (actions : List Action) → actions ≡ map action_of (jobs_of (read_table s)) → Unasked h.paired (actions_in actions)
  header_unasked actions q p a l =
      let (t, r, same) = headed_sound (read_table s) e in
      let none : pairs t ≡ false = ap (λ x. x.paired) same ∙ is_false h.paired p in
      rw (q, ← r, get_or-map action_of t.jobs a no_job) (no_absent s b t (sym r) none a)

  -- so an expansion, as its list is paired or not, takes the jobs as they are
  pub header_taken : (actions : List Action) → actions ≡ map action_of (jobs_of (read_table s)) → actions_for h.paired actions ≡ actions_in actions
  header_taken actions q =
      for_all h.paired actions (omega (arith, header_few, header_count, ap length q, length-map (jobs_of (read_table s)) action_of))
      (header_unasked actions q)

  module _ (t : Table) (r : accepted t ≡ read_table s) where
    pub same_header : header_of t ≡ h
    same_header =
        let f = headed_sound (read_table s) e in
        ap header_of (accepted_same (r ∙ sym f.1)) ∙ f.2

    pub header_paired : h.paired ≡ pairs t
    header_paired = ap (λ x. x.paired) (sym same_header)

    -- what is loaded are the table's actions
    pub loaded_actions : (actions : List Action) → actions ≡ map action_of (jobs_of (read_table s)) → actions_in actions ≡ table_actions t
    loaded_actions actions q = rw (q, ← r) (listed_actions t (read_sound s b t (sym r)).few)

    -- so an expansion over them is one over the table's
    pub expands_table : (actions : List Action) → actions ≡ map action_of (jobs_of (read_table s)) → (until : Until) (before after : Columns) (x : Expanded)
        → Expands h.paired (actions_in actions) (plain h.goal) until before after x → Expands (pairs t) (table_actions t) (plain t.goal) until before after x
    expands_table actions q until before after x E =
        rw (header_paired, loaded_actions actions q, ap (λ x. x.goal) (sym same_header)) at E
