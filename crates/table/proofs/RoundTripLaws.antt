-- Reading what was written gives the table back, and writing what was read gives the bytes back.
-- Assumes nothing.
use Prim.Native.Nat.{ℕ, zero, suc, ◌+◌, ◌-◌, ◌^◌, ◌≤◌, ◌<◌}
use Rattle.std.proofs.Common.{add-zero, arith, ◌∙◌, length-append, length-drop, drop-drop, drop_at, get_or-drop}
use Rattle.std.proofs.Math.Decide.{dec_le}
use Rattle.std.specs.Prelude.{◌≡◌, Bool, if◌then◌else◌, Some}
use Rattle.std.proofs.Math.Path.{refl, sym, ap}
use Rattle.std.proofs.Math.Bool.{true, false}
use mathlib.Core.List.{List, [], ◌∷◌, ◌++◌, append_assoc, append-nil}
use Rattle.std.proofs.Math.Dec.{eqb}
use Rattle.std.proofs.Math.ListN.{length, get_or, drop, drop_of_length-le, get_or-eq_default}
use borrow.Author.Tests.{eqb-true, eqb-false}
use Rattle.masks.specs.Sets.{within}
use Rattle.refusal.specs.Checked.{Checked, accepted, refused, and_then}
use Rattle.refusal.specs.CheckedLaws.{not_both, accepted_same, accepted_then, accepted_if}
use Rattle.commands.specs.declared.Found.TheVariants.{Whole}
use Rattle.commands.specs.Commands.{FACTS, JOB, PAIRED_JOB, GOAL, END_OF_TABLE, FACTS_SIZE, GOAL_SIZE, END_OF_TABLE_SIZE, OPERANDS_AT, Past, width_of, command_at}
use Rattle.commands.specs.CommandLaws.{at_whole}
use Rattle.numbers.specs.Numbers.{AreBytes, to_bytes, number_at}
use Rattle.numbers.specs.NumberLaws.{from_to, to_length, read_drop, number_lt, byte_there, number_there}
use Rattle.job.specs.declared.Job.{Job}
use Rattle.job.specs.Job.{no_job, command_by, operands_by, job_bytes, job_size, job_at, StorableJob}
use Rattle.job.proofs.JobLaws.{by_size, by_width, job_size_is, job_length, read_job, written_job, job_fits}
use Rattle.job.specs.Validation.{max_seconds, validated_job, SoundJob}
use Rattle.job.proofs.ValidationLaws.{validated_sound, validated_told}
use Rattle.table.specs.declared.Stage.{Stage}
use Rattle.table.specs.declared.Stage.TheVariants.{First, Middle, Last}
use Rattle.table.specs.Table.{Table, max_jobs, jobs_bytes, goal_bytes, table_bytes}
use Rattle.table.specs.Read.{allowed, due, facts_in_range, read_end, read_goal, read_jobs, read_table, jobs_of}
use Rattle.table.proofs.ReadLaws.{due_whole, due_told, facts_inside, goal_inside, end_inside, job_due, end_whole, jobs_goal, jobs_full, jobs_bad, jobs_more, table_facts, table_no_facts}
use Rattle.table.specs.Sound.{Sound, Storable, validated_from, validated_table}

-- ---- lists

drop_next : (s xs ys : List ℕ) (at n : ℕ) → drop at s ≡ xs ++ ys → length xs ≡ n → drop (at + n) s ≡ ys
drop_next s xs ys at n e l = sym (drop-drop n at s) ∙ ap (drop n) e ∙ drop_at xs ys n l

here : (s xs : List ℕ) (at x : ℕ) → drop at s ≡ x ∷ xs → get_or s at 0 ≡ x
here s xs at x e = ap (λ (k : ℕ). get_or s k 0) (sym (add-zero at)) ∙ sym (get_or-drop at s 0 0) ∙ ap (λ (l : List ℕ). get_or l 0 0) e

-- ---- a command that stands at an offset

module _ (stage : Stage) (s ops rest : List ℕ) (at byte w next : ℕ) (e : drop at s ≡ byte ∷ ops ++ rest) (size : length ops ≡ w)
    (known : width_of byte ≡ Some w) (fits : allowed stage byte ≡ true) (n : at + 1 + w ≡ next) where
  due_here : accepted (record { value = byte; next = next }) ≡ due stage s at
  due_here =
      let l : length s - at ≡ suc (length (ops ++ rest)) = sym (length-drop at s) ∙ ap length e in
      let b : get_or s at 0 ≡ byte = here s (ops ++ rest) at byte e in
      let whole : command_at s at ≡ Whole (get_or s at 0) (at + 1 + w) = at_whole s at (omega arith) w (rw b known) (omega (arith, length-append ops rest)) in
      due_whole stage s at byte next (rw (b, n) at whole) fits

-- ---- reading what was written

goal_number : (goal : ℕ) → goal < 2 ^ 64 → number_at 8 (goal_bytes goal) OPERANDS_AT ≡ goal
unfolding goal_bytes number_at to_bytes
goal_number goal h = from_to 8 goal h

goal_due : (s : List ℕ) (goal at : ℕ) → drop at s ≡ goal_bytes goal → accepted (record { value = GOAL; next = at + GOAL_SIZE }) ≡ due Middle s at
unfolding goal_bytes width_of
goal_due s goal at e = due_here Middle s (to_bytes 8 goal) (END_OF_TABLE ∷ []) at GOAL _ _ e (to_length 8 goal) refl refl (omega arith)

job_allowed : (paired : Bool) → allowed Middle (command_by paired) ≡ true
job_allowed false = refl
job_allowed true = refl

due_job : (s rest : List ℕ) (at : ℕ) (j : Job) → drop at s ≡ job_bytes j ++ rest → accepted (record { value = command_by j.paired; next = at + job_size j }) ≡ due Middle s at
unfolding job_bytes
due_job s rest at j e =
    due_here Middle s (operands_by j.paired j) rest at (command_by j.paired) _ _ e refl (by_width j.paired j) (job_allowed j.paired)
    (omega (arith, job_size_is j, by_size j.paired j))

facts_due : (t : Table) → accepted (record { value = FACTS; next = FACTS_SIZE }) ≡ due First (table_bytes t) 0
unfolding table_bytes width_of
facts_due t = due_here First (table_bytes t) (t.facts ∷ []) (jobs_bytes t.jobs ++ goal_bytes t.goal) 0 FACTS _ _ refl refl refl refl refl

no_goal : (paired : Bool) → command_by paired ≡ GOAL → ⊥
no_goal false = eqb-false JOB GOAL refl
no_goal true = eqb-false PAIRED_JOB GOAL refl

module _ (s : List ℕ) (facts goal : ℕ) (fits : goal < 2 ^ 64) where
  table_with : List Job → Table
  table_with js = record { facts = facts; jobs = js; goal = goal }

  read_goal_is : (js : List Job) (at : ℕ) → drop at s ≡ goal_bytes goal
      → read_goal s facts js at (at + GOAL_SIZE) ≡ (if within facts goal then accepted (record { facts = facts; jobs = js; goal = goal }) else refused 5 at)
  unfolding goal_bytes to_bytes width_of read_goal table_with
  read_goal_is js at e =
      let tail : drop (at + GOAL_SIZE) s ≡ END_OF_TABLE ∷ [] = drop_next s (GOAL ∷ to_bytes 8 goal) (END_OF_TABLE ∷ []) at GOAL_SIZE e refl in
      let size : length s - at ≡ GOAL_SIZE + END_OF_TABLE_SIZE = sym (length-drop at s) ∙ ap length e in
      let value : number_at 8 s (at + OPERANDS_AT) ≡ goal = read_drop 8 s at OPERANDS_AT ∙ ap (λ (l : List ℕ). number_at 8 l OPERANDS_AT) e ∙ goal_number goal fits in
      rw value
      (ap (λ x. if within facts goal then x else refused 5 at)
      (sym (end_whole s (table_with js) (at + GOAL_SIZE) _ (due_here Last s [] [] (at + GOAL_SIZE) END_OF_TABLE _ _ tail refl refl refl refl) (omega arith))))

  read_jobs_are : (left : ℕ) (ks : List Job) (js : List Job) (at : ℕ) → ((i : ℕ) → StorableJob (get_or ks i no_job)) → drop at s ≡ jobs_bytes ks ++ goal_bytes goal
      → read_jobs s facts left js at ≡ validated_from facts goal left js ks at
  unfolding jobs_bytes validated_from
  read_jobs_are left [] js at h e = sym (jobs_goal s facts js at _ (goal_due s goal at e) left refl) ∙ read_goal_is js at e
  read_jobs_are zero (k ∷ ks) js at h e = sym (jobs_full s facts js at _ (due_job s _ at k (e ∙ append_assoc (job_bytes k) (jobs_bytes ks) (goal_bytes goal))) (no_goal k.paired))
  read_jobs_are (suc left) (k ∷ ks) js at h e =
      next (validated_job facts at k) refl
      (λ j. read_jobs_are left ks (js ++ (j ∷ [])) (at + job_size k) (λ i. h (suc i)) (drop_next s (job_bytes k) (jobs_bytes ks ++ goal_bytes goal) at (job_size k) split (job_length k)))
    where
      split : drop at s ≡ job_bytes k ++ (jobs_bytes ks ++ goal_bytes goal)
      split = e ∙ append_assoc (job_bytes k) (jobs_bytes ks) (goal_bytes goal)

      its : (r : Checked Job) → validated_job facts at k ≡ r → r ≡ validated_job facts at (job_at s at)
      its r q = sym q ∙ ap (validated_job facts at) (sym (read_job s _ at k (h 0) split))

      next : (r : Checked Job) → validated_job facts at k ≡ r
          → ((j : Job) → read_jobs s facts left (js ++ (j ∷ [])) (at + job_size k) ≡ validated_from facts goal left (js ++ (j ∷ [])) ks (at + job_size k))
          → read_jobs s facts (suc left) js at ≡ and_then r (λ j. validated_from facts goal left (js ++ (j ∷ [])) ks (at + job_size k))
      next (accepted j) q ih = sym (jobs_more s facts js at _ (due_job s _ at k split) (no_goal k.paired) left j (its (accepted j) q)) ∙ ih j
      next (refused n p) q ih = sym (jobs_bad s facts js at _ (due_job s _ at k split) (no_goal k.paired) left n p (its (refused n p) q))

-- the bytes of a table are validated as the table is
pub read_written : (t : Table) → Storable t → read_table (table_bytes t) ≡ validated_table t
unfolding validated_table table_bytes
read_written t h = by_facts (facts_in_range t.facts) refl
  where
    by_facts : (b : Bool) → facts_in_range t.facts ≡ b
        → read_table (table_bytes t) ≡ (if b then validated_from t.facts t.goal max_jobs [] t.jobs FACTS_SIZE else refused 3 0)
    by_facts true f =
        sym (table_facts (table_bytes t) _ (facts_due t) f) ∙ read_jobs_are (table_bytes t) t.facts t.goal h.goal_fits max_jobs t.jobs [] FACTS_SIZE h.jobs_fit refl
    by_facts false f = sym (table_no_facts (table_bytes t) _ (facts_due t) f)

-- ---- what the checks leave

pub record ValidatedFrom (facts goal left : ℕ) (js ks : List Job) (t : Table) : Type 0 where
  pub is_table : record { facts = facts; jobs = js ++ ks; goal = goal } ≡ t
  pub few : length ks ≤ left
  pub sound_jobs : (i : ℕ) → i < length ks → SoundJob facts (get_or ks i no_job)
  pub sound_goal : within facts goal ≡ true

validated_from_sound : (facts goal left : ℕ) (js ks : List Job) (at : ℕ) (t : Table) → validated_from facts goal left js ks at ≡ accepted t → ValidatedFrom facts goal left js ks t
unfolding validated_from
validated_from_sound facts goal left js [] at t e =
    let r = accepted_if (within facts goal) _ 5 at t e in
    record { is_table = rw append-nil (accepted_same r.1); few = omega arith; sound_jobs = λ i l. absurd (omega arith); sound_goal = r.0 }
validated_from_sound facts goal zero js (k ∷ ks) at t e = absurd (not_both e)
validated_from_sound facts goal (suc left) js (k ∷ ks) at t e =
    let r = accepted_then (validated_job facts at k) _ t e in
    let j = validated_told facts at k r.0 r.1 in
    let q : ValidatedFrom facts goal left (js ++ (k ∷ [])) ks t = validated_from_sound facts goal left (js ++ (k ∷ [])) ks (at + job_size k) t (rw (← j.0) at r.2) in
    record {
      is_table = rw append_assoc at q.is_table;
      few = omega (arith, q.few);
      sound_jobs = λ i l. each q.sound_jobs j.1 i l;
      sound_goal = q.sound_goal;
    }
  where
    each : ((i : ℕ) → i < length ks → SoundJob facts (get_or ks i no_job)) → SoundJob facts k → (i : ℕ) → i < length (k ∷ ks) → SoundJob facts (get_or (k ∷ ks) i no_job)
    each h s zero l = s
    each h s (suc i) l = h i (omega arith)

pub validated_table_sound : (t u : Table) → validated_table t ≡ accepted u → (t ≡ u) × Sound t
unfolding validated_table
validated_table_sound t u e =
    let r = accepted_if (facts_in_range t.facts) _ 3 0 u e in
    let q = validated_from_sound t.facts t.goal max_jobs [] t.jobs FACTS_SIZE u r.1 in
    (q.is_table, record { facts_range_held = r.0; few = q.few; sound_jobs = q.sound_jobs; sound_goal = q.sound_goal })

sound_from : (facts goal left : ℕ) (js ks : List Job) (at : ℕ) → length ks ≤ left → ((i : ℕ) → i < length ks → SoundJob facts (get_or ks i no_job)) → within facts goal ≡ true
    → validated_from facts goal left js ks at ≡ accepted (record { facts = facts; jobs = js ++ ks; goal = goal })
unfolding validated_from
sound_from facts goal left js [] at l h g = rw (g, append-nil)
sound_from facts goal zero js (k ∷ ks) at l h g = absurd (omega arith)
sound_from facts goal (suc left) js (k ∷ ks) at l h g =
    let k_sound = h 0 (omega arith) in
    ap (λ r. and_then r λ j. validated_from facts goal left (js ++ (j ∷ [])) ks (at + job_size k))
    (sym (validated_sound facts at k k_sound.range_held k_sound.apart k_sound.time_held k_sound.one_way))
    ∙ sound_from facts goal left (js ++ (k ∷ [])) ks (at + job_size k) (omega arith) (λ i m. h (suc i) (omega arith)) g
    ∙ rw append_assoc

-- Reading what was written gives the table back: a sound table is read from its bytes as itself,
pub read_back : (t : Table) → Storable t → Sound t → read_table (table_bytes t) ≡ accepted t
unfolding validated_table
read_back t h s =
    read_written t h
    ∙ ap (λ (b : Bool). if b then validated_from t.facts t.goal max_jobs [] t.jobs FACTS_SIZE else refused 3 0) s.facts_range_held
    ∙ sound_from t.facts t.goal max_jobs [] t.jobs FACTS_SIZE s.few s.sound_jobs s.sound_goal

-- and no other is ever read from them.
pub read_only : (t u : Table) → Storable t → read_table (table_bytes t) ≡ accepted u → (t ≡ u) × Sound t
read_only t u h e = validated_table_sound t u (sym (read_written t h) ∙ e)

-- ---- writing what was read

no_job_fits : StorableJob no_job
no_job_fits =
    record { needs_fit = omega arith; absent_fit = omega arith; adds_fit = omega arith; deletes_fit = omega arith; seconds_fit = omega arith; unpaired = λ e. refl }

module _ (s : List ℕ) (b : AreBytes s) where
  written_goal : (at : ℕ) → get_or s at 0 ≡ GOAL → get_or s (at + GOAL_SIZE) 0 ≡ END_OF_TABLE → at + GOAL_SIZE + END_OF_TABLE_SIZE ≡ length s
      → goal_bytes (number_at 8 s (at + OPERANDS_AT)) ≡ drop at s
  unfolding goal_bytes
  written_goal at e f l =
      let none : drop (length s) s ≡ [] = drop_of_length-le s {i = length s} (omega arith) in
      let last : END_OF_TABLE ∷ [] ≡ drop (at + GOAL_SIZE) s = rw (← f, ← none) (byte_there s (at + GOAL_SIZE) (length s) l (omega arith)) in
      rw (last, number_there s b 8 (at + OPERANDS_AT) (at + GOAL_SIZE) (omega arith) (omega arith), ← e) (byte_there s at (at + OPERANDS_AT) refl (omega arith))

  -- what stands from an offset on, where reading goes on to the end
  record Rest (facts : ℕ) (js : List Job) (at : ℕ) (t : Table) : Type 0 where
    ks : List Job
    goal : ℕ
    is_table : record { facts = facts; jobs = js ++ ks; goal = goal } ≡ t
    there : jobs_bytes ks ++ goal_bytes goal ≡ drop at s
    jobs_fit : (i : ℕ) → StorableJob (get_or ks i no_job)
    goal_fits : goal < 2 ^ 64

  end_there : (at : ℕ) (c : Past ℕ) → due Last s at ≡ accepted c → (get_or s at 0 ≡ END_OF_TABLE) × (c.next ≡ at + END_OF_TABLE_SIZE)
  end_there at c e = let d = due_told Last s at c (sym e) in (d.whole.is_byte ∙ eqb-true _ _ d.fits, (end_inside s at c (sym e)).0)

  rest_goal : (facts : ℕ) (js : List Job) (at : ℕ) (t : Table) → get_or s at 0 ≡ GOAL → read_goal s facts js at (at + GOAL_SIZE) ≡ accepted t → Rest facts js at t
  unfolding read_goal read_end jobs_bytes
  rest_goal facts js at t e q =
      let g = accepted_if (within facts (number_at 8 s (at + OPERANDS_AT))) _ 5 at t q in
      let c = accepted_then (due Last s (at + GOAL_SIZE)) _ t g.1 in
      let d = end_there (at + GOAL_SIZE) c.0 c.1 in
      let l = accepted_if (eqb c.0.next (length s)) _ 7 c.0.next t c.2 in
      record {
        ks = [];
        goal = number_at 8 s (at + OPERANDS_AT);
        is_table = rw append-nil (accepted_same l.1);
        there = written_goal at e d.0 (omega (arith, d.1, eqb-true c.0.next (length s) l.0));
        jobs_fit = λ i. no_job_fits;
        goal_fits = number_lt 8 s (at + OPERANDS_AT) b;
      }

  module _ (facts : ℕ) (js : List Job) (at : ℕ) (t : Table) (c : Past ℕ) (e : due Middle s at ≡ accepted c) where
    rest_at_goal : c.value ≡ GOAL → read_goal s facts js at c.next ≡ accepted t → Rest facts js at t
    rest_at_goal g q =
        rest_goal facts js at t ((due_told Middle s at c (sym e)).whole.is_byte ∙ g) (rw (goal_inside s at c (sym e) g).0 at q)

    rest_at_job : (c.value ≡ GOAL → ⊥) → (j : Job) → validated_job facts at (job_at s at) ≡ accepted j → Rest facts (js ++ (j ∷ [])) c.next t → Rest facts js at t
    unfolding jobs_bytes
    rest_at_job g j q r =
        let d = job_due s at c (sym e) g in
        let k : job_at s at ≡ j = (validated_told facts at (job_at s at) j q).0 in
        record {
          ks = j ∷ r.ks;
          goal = r.goal;
          is_table = rw append_assoc at r.is_table;
          there =
              rw (append_assoc, r.there, d.is_next, ← k)
              (written_job s b at d.paired d.is_byte d.inside);
          jobs_fit = elim [ zero ↦ rw k at (job_fits s b at) | suc i ↦ r.jobs_fit i ];
          goal_fits = r.goal_fits;
        }

  rest_jobs : (facts left : ℕ) (js : List Job) (at : ℕ) (t : Table) → read_jobs s facts left js at ≡ accepted t → Rest facts js at t
  unfolding read_jobs
  rest_jobs facts zero js at t q =
      let c = accepted_then (due Middle s at) _ t q in
      let g = accepted_if (eqb c.0.value GOAL) _ 4 at t c.2 in
      rest_at_goal facts js at t c.0 c.1 (eqb-true c.0.value GOAL g.0) g.1
  rest_jobs facts (suc left) js at t q =
      let c = accepted_then (due Middle s at) _ t q in
      by_byte c.0 c.1 (eqb c.0.value GOAL) refl (λ j. rest_jobs facts left (js ++ (j ∷ [])) c.0.next t) c.2
    where
      by_byte : (c : Past ℕ) → due Middle s at ≡ accepted c → (z : Bool) → eqb c.value GOAL ≡ z
          → ((j : Job) → read_jobs s facts left (js ++ (j ∷ [])) c.next ≡ accepted t → Rest facts (js ++ (j ∷ [])) c.next t)
          → (if z then read_goal s facts js at c.next else (and_then (validated_job facts at (job_at s at)) λ j. read_jobs s facts left (js ++ (j ∷ [])) c.next)) ≡ accepted t → Rest facts js at t
      by_byte c e true z ih q = rest_at_goal facts js at t c e (eqb-true c.value GOAL z) q
      by_byte c e false z ih q =
          let r = accepted_then (validated_job facts at (job_at s at)) _ t q in
          rest_at_job facts js at t c e (eqb-false c.value GOAL z) r.0 r.1 (ih r.0 r.2)

  module _ (t : Table) (q : read_table s ≡ accepted t) where
    table_there : (table_bytes t ≡ s) × Storable t
    unfolding read_table table_bytes
    table_there =
        let c = accepted_then (due First s 0) _ t q in
        let f = accepted_if (facts_in_range (get_or s OPERANDS_AT 0)) _ 3 0 t c.2 in
        let d = due_told First s 0 c.0 (sym c.1) in
        let n = facts_inside s 0 c.0 (sym c.1) in
        let r : Rest (get_or s OPERANDS_AT 0) [] FACTS_SIZE t = rest_jobs (get_or s OPERANDS_AT 0) max_jobs [] FACTS_SIZE t (rw n.0 at f.1) in
        let byte : get_or s 0 0 ≡ FACTS = d.whole.is_byte ∙ eqb-true c.0.value FACTS d.fits in
        rw (← r.is_table) (
          rw (r.there, ← byte, byte_there s OPERANDS_AT FACTS_SIZE refl n.1) (byte_there s 0 OPERANDS_AT refl (omega (arith, n.1))),
          record { facts_fit = b OPERANDS_AT; jobs_fit = r.jobs_fit; goal_fits = r.goal_fits },
        )

    -- Writing what was read gives the bytes back.
    pub written_back : table_bytes t ≡ s
    written_back = table_there.0

    pub read_storable : Storable t
    read_storable = table_there.1

    -- What was read is sound.
    pub read_sound : Sound t
    read_sound = (read_only t t read_storable (ap read_table written_back ∙ q)).1

-- document 02, W3: "whoever sums the times may rely on it". A number that names no job has no seconds.
pub listed_in_time : (s : List ℕ) → AreBytes s → (a : ℕ) → (get_or (jobs_of (read_table s)) a no_job).seconds ≤ max_seconds
listed_in_time s b a =
    elim (dec_le (suc a) (length (jobs_of (read_table s)))) [
      | yes h ↦ named (read_table s) refl h
      | no h ↦ rw (get_or-eq_default (jobs_of (read_table s)) no_job {n = a} (omega arith)) (omega arith)
    ]
  where
    named : (r : Checked Table) → read_table s ≡ r → a < length (jobs_of r) → (get_or (jobs_of r) a no_job).seconds ≤ max_seconds
    named (accepted t) e h = ((read_sound s b t e).sound_jobs a h).time_held
    named (refused n p) e h = absurd (omega arith)
