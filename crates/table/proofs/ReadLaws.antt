-- The table reader's definition, way by way: what each test leads to. Equations are turned so that a function's answers chain with them.
-- Assumes nothing.
use Prim.Native.Nat.{ℕ, zero, suc, ◌+◌, ◌≤◌, ◌<◌}
use native.Mathlib.Omega.{arith}
use Rattle.std.proofs.Math.Path.{◌≡◌, refl}
use Rattle.std.proofs.Common.{sym, ◌∙◌}
use Rattle.std.specs.Prelude.{Bool, List, [], ◌∷◌, ◌++◌, eqb, length, get_or, if◌then◌else◌, Some}
use Rattle.std.proofs.Math.Bool.{true, false}
use borrow.Author.Tests.{eq-eqb, ne_eqb, eqb-true, lt-ltb, le-ltb}
use Rattle.masks.specs.Sets.{within}
use Rattle.refusal.specs.Checked.{Checked, accepted, refused}
use Rattle.refusal.specs.CheckedLaws.{not_both, accepted_same}
use Rattle.commands.specs.declared.Found.{Found}
use Rattle.commands.specs.declared.Found.TheVariants.{Missing, Unknown, Cut, Whole}
use Rattle.commands.specs.Commands.{FACTS, JOB, PAIRED_JOB, GOAL, END_OF_TABLE, FACTS_SIZE, GOAL_SIZE, END_OF_TABLE_SIZE, OPERANDS_AT, Past, width_of, command_at}
use Rattle.commands.specs.CommandLaws.{WholeAt, whole_told}
use Rattle.numbers.specs.Numbers.{number_at}
use Rattle.job.specs.declared.Job.{Job}
use Rattle.job.specs.Job.{no_job, command_by, job_at, job_from}
use Rattle.job.proofs.JobLaws.{size_by, by_size, by_width, kind_size}
use Rattle.job.specs.Validation.{validated_job}
use Rattle.table.specs.declared.Header.{Header}
use Rattle.table.specs.declared.Stage.{Stage}
use Rattle.table.specs.declared.Stage.TheVariants.{First, Middle, Last}
use Rattle.table.specs.Table.{Table, max_jobs}
use Rattle.table.specs.Read.{allowed, due_in, due, facts_in_range, read_end, read_goal, read_jobs, read_table, named_job, header_of, headed}

-- ---- the command that is due

module _ (stage : Stage) (s : List ℕ) (at : ℕ) where
  found : (f : Found) (r : Checked (Past ℕ)) → command_at s at ≡ f → due_in stage s at f ≡ r → r ≡ due stage s at
  unfolding due
  found f r e d = rw e (sym d)

  pub due_missing : command_at s at ≡ Missing → refused 1 (length s) ≡ due stage s at
  due_missing e = found Missing _ e refl

  pub due_unknown : command_at s at ≡ Unknown → refused 2 at ≡ due stage s at
  due_unknown e = found Unknown _ e refl

  module _ (byte : ℕ) where
    pub due_cut : command_at s at ≡ Cut byte → allowed stage byte ≡ true → refused 1 at ≡ due stage s at
    due_cut e a = found (Cut byte) _ e (rw a)

    pub due_cut_other : command_at s at ≡ Cut byte → allowed stage byte ≡ false → refused 2 at ≡ due stage s at
    due_cut_other e a = found (Cut byte) _ e (rw a)

    pub due_whole : (next : ℕ) → command_at s at ≡ Whole byte next → allowed stage byte ≡ true → accepted (record { value = byte; next = next }) ≡ due stage s at
    due_whole next e a = found (Whole byte next) _ e (rw a)

    pub due_other : (next : ℕ) → command_at s at ≡ Whole byte next → allowed stage byte ≡ false → refused 2 at ≡ due stage s at
    due_other next e a = found (Whole byte next) _ e (rw a)

-- what a command that was due tells
pub record DueAt (stage : Stage) (s : List ℕ) (at : ℕ) (c : Past ℕ) : Type 0 where
  pub whole : WholeAt s at c.value c.next
  pub fits : allowed stage c.value ≡ true

module _ (stage : Stage) (s : List ℕ) (at : ℕ) (c : Past ℕ) where
  pub due_told : accepted c ≡ due stage s at → DueAt stage s at c
  unfolding due
  due_told = by_found (command_at s at) refl
    where
      by_allowed : (byte next : ℕ) (t : Bool) → allowed stage byte ≡ t → command_at s at ≡ Whole byte next
          → accepted c ≡ (if t then accepted (record { value = byte; next = next }) else refused 2 at) → DueAt stage s at c
      by_allowed byte next true l e q =
          let k : c ≡ record { value = byte; next = next } = cc in
          rw k (record { whole = whole_told s at byte next e; fits = l })
      by_allowed byte next false l e q = absurd (clash q)
        where
          clash : accepted c ≡ refused 2 at → ⊥
          clash q = let z : ◌≡◌ {A = ℕ} 0 1 = cc in omega arith

      by_found : (f : Found) → command_at s at ≡ f → accepted c ≡ due_in stage s at f → DueAt stage s at c
      by_found Missing e q = let z : ◌≡◌ {A = ℕ} 0 1 = cc in absurd (omega arith)
      by_found Unknown e q = let z : ◌≡◌ {A = ℕ} 0 1 = cc in absurd (omega arith)
      by_found (Cut byte) e q = absurd (cut (allowed stage byte) q)
        where
          cut : (t : Bool) → accepted c ≡ (if t then refused 1 at else refused 2 at) → ⊥
          cut true q = let z : ◌≡◌ {A = ℕ} 0 1 = cc in omega arith
          cut false q = let z : ◌≡◌ {A = ℕ} 0 1 = cc in omega arith
      by_found (Whole byte next) e q = by_allowed byte next (allowed stage byte) refl e q

-- where a command's operands end

sized : (s : List ℕ) (at : ℕ) (c : Past ℕ) (byte w : ℕ) → WholeAt s at c.value c.next → c.value ≡ byte → width_of byte ≡ Some w
    → (c.next ≡ at + 1 + w) × (at + 1 + w ≤ length s)
sized s at c byte w h b e =
    let k : h.width ≡ w = cc (h.is_width, b, e) in
    (omega (arith, h.is_next), omega (arith, h.is_next, h.inside))

-- a job that was due
pub record JobDue (s : List ℕ) (at : ℕ) (c : Past ℕ) : Type 0 where
  pub paired : Bool
  pub is_byte : get_or s at 0 ≡ command_by paired
  pub is_next : c.next ≡ at + size_by paired
  pub inside : at + size_by paired ≤ length s

module _ (s : List ℕ) (at : ℕ) (c : Past ℕ) where
  pub facts_inside : accepted c ≡ due First s at → (c.next ≡ at + FACTS_SIZE) × (at + FACTS_SIZE ≤ length s)
  unfolding width_of
  facts_inside e = let d = due_told First s at c e in omega (arith, sized s at c FACTS _ d.whole (eqb-true _ _ d.fits) refl)

  pub end_inside : accepted c ≡ due Last s at → (c.next ≡ at + END_OF_TABLE_SIZE) × (at + END_OF_TABLE_SIZE ≤ length s)
  unfolding width_of
  end_inside e = let d = due_told Last s at c e in omega (arith, sized s at c END_OF_TABLE _ d.whole (eqb-true _ _ d.fits) refl)

  module _ (e : accepted c ≡ due Middle s at) where
    pub goal_inside : c.value ≡ GOAL → (c.next ≡ at + GOAL_SIZE) × (at + GOAL_SIZE ≤ length s)
    unfolding width_of
    goal_inside b = omega (arith, sized s at c GOAL _ (due_told Middle s at c e).whole b refl)

    job_of : (kind : Bool) → c.value ≡ command_by kind → JobDue s at c
    job_of kind b =
        let whole = (due_told Middle s at c e).whole in
        let size = sized s at c (command_by kind) _ whole b (by_width kind no_job) in
        let ends = by_size kind no_job in
        record { paired = kind; is_byte = whole.is_byte ∙ b; is_next = omega (arith, size.0, ends); inside = omega (arith, size.1, ends) }

    -- a command that is due after FACTS and is no GOAL is a job, of one kind or the other
    pub job_due : (c.value ≡ GOAL → ⊥) → JobDue s at c
    job_due b = by_test (eqb c.value JOB) refl (eqb c.value PAIRED_JOB) refl
      where
        by_test : (x : Bool) → eqb c.value JOB ≡ x → (y : Bool) → eqb c.value PAIRED_JOB ≡ y → JobDue s at c
        by_test true p y q = job_of false (eqb-true _ _ p)
        by_test false p true q = job_of true (eqb-true _ _ q)
        by_test false p false q = absurd (b (eqb-true _ _ (rw (p, q) at (due_told Middle s at c e).fits)))

    -- so the job that is read there ends where its command does
    pub job_whole : (c.value ≡ GOAL → ⊥) → (c.next ≡ (job_from s at).next) × ((job_from s at).next ≤ length s)
    job_whole b =
        let d = job_due b in
        let size = kind_size s at d.paired d.is_byte in
        (omega (arith, d.is_next, size), omega (arith, d.inside, size))

-- ---- END

module _ (s : List ℕ) (t : Table) (at : ℕ) where
  pub end_refused : (n p : ℕ) → refused n p ≡ due Last s at → refused n p ≡ read_end s t at
  unfolding read_end
  end_refused n p e = rw (← e)

  module _ (c : Past ℕ) (e : accepted c ≡ due Last s at) where
    pub end_whole : c.next ≡ length s → accepted t ≡ read_end s t at
    unfolding read_end
    end_whole l = rw (← e, eq-eqb _ _ l)

    pub end_more : (c.next ≡ length s → ⊥) → refused 7 c.next ≡ read_end s t at
    unfolding read_end
    end_more l = rw (← e, ne_eqb _ _ l)

-- ---- GOAL

module _ (s : List ℕ) (facts : ℕ) (js : List Job) (at next : ℕ) where
  pub goal_out : within facts (number_at 8 s (at + OPERANDS_AT)) ≡ false → refused 5 at ≡ read_goal s facts js at next
  unfolding read_goal
  goal_out e = rw e

  pub goal_in : within facts (number_at 8 s (at + OPERANDS_AT)) ≡ true
      → read_end s (record { facts = facts; jobs = js; goal = number_at 8 s (at + OPERANDS_AT) }) next ≡ read_goal s facts js at next
  unfolding read_goal
  goal_in e = rw e

-- ---- JOBs

module _ (s : List ℕ) (facts : ℕ) (js : List Job) (at : ℕ) where
  pub jobs_refused : (left n p : ℕ) → refused n p ≡ due Middle s at → refused n p ≡ read_jobs s facts left js at
  unfolding read_jobs
  jobs_refused zero n p e = rw (← e)
  jobs_refused (suc left) n p e = rw (← e)

  module _ (c : Past ℕ) (e : accepted c ≡ due Middle s at) where
    pub jobs_goal : (left : ℕ) → c.value ≡ GOAL → read_goal s facts js at c.next ≡ read_jobs s facts left js at
    unfolding read_jobs
    jobs_goal zero b = rw (← e, eq-eqb _ _ b)
    jobs_goal (suc left) b = rw (← e, eq-eqb _ _ b)

    module _ (b : c.value ≡ GOAL → ⊥) where
      pub jobs_full : refused 4 at ≡ read_jobs s facts 0 js at
      unfolding read_jobs
      jobs_full = rw (← e, ne_eqb _ _ b)

      pub jobs_bad : (left n p : ℕ) → refused n p ≡ validated_job facts at (job_at s at) → refused n p ≡ read_jobs s facts (suc left) js at
      unfolding read_jobs
      jobs_bad left n p r = rw (← e, ne_eqb _ _ b, ← r)

      pub jobs_more : (left : ℕ) (j : Job) → accepted j ≡ validated_job facts at (job_at s at) → read_jobs s facts left (js ++ (j ∷ [])) c.next ≡ read_jobs s facts (suc left) js at
      unfolding read_jobs
      jobs_more left j r = rw (← e, ne_eqb _ _ b, ← r)

-- ---- FACTS

module _ (s : List ℕ) where
  pub table_refused : (n p : ℕ) → refused n p ≡ due First s 0 → refused n p ≡ read_table s
  unfolding read_table
  table_refused n p e = rw (← e)

  module _ (c : Past ℕ) (e : accepted c ≡ due First s 0) where
    pub table_facts : facts_in_range (get_or s OPERANDS_AT 0) ≡ true → read_jobs s (get_or s OPERANDS_AT 0) max_jobs [] c.next ≡ read_table s
    unfolding read_table
    table_facts f = rw (← e, f)

    pub table_no_facts : facts_in_range (get_or s OPERANDS_AT 0) ≡ false → refused 3 0 ≡ read_table s
    unfolding read_table
    table_no_facts f = rw (← e, f)

-- ---- what the reader's answer tells its caller

pub headed_refused : {n p : ℕ} (r : Checked Table) → refused n p ≡ headed r → refused n p ≡ r
headed_refused (accepted t) e = absurd (not_both e)
headed_refused (refused n p) e = cc

pub headed_sound : {h : Header} (r : Checked Table) → accepted h ≡ headed r → (t : Table) × (accepted t ≡ r) × (header_of t ≡ h)
headed_sound (accepted t) e = (t, refl, sym (accepted_same e))
headed_sound (refused n p) e = absurd (not_both (sym e))

-- ---- a job by its number

module _ (t : Table) (i place : ℕ) where
  pub named_job_is : i < length t.jobs → accepted (get_or t.jobs i no_job) ≡ named_job t i place
  unfolding named_job
  named_job_is h = rw (lt-ltb i (length t.jobs) h)

  pub named_none : length t.jobs ≤ i → refused 16 place ≡ named_job t i place
  unfolding named_job
  named_none h = rw (le-ltb i (length t.jobs) h)
