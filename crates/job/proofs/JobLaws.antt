-- A job's bytes, there and back.
-- Assumes nothing.
use Rattle.std.specs.Prelude.{ℕ, suc, ◌+◌, ◌≤◌, Bool, eqb, length, drop, Some}
use Rattle.std.proofs.Common.{arith, ◌∙◌, eq-eqb, ne_eqb, get_or-drop}
use Rattle.std.proofs.Math.Path.{◌≡◌, refl, sym, ap}
use Rattle.std.proofs.Math.Bool.{true, false}
use mathlib.Core.List.{List, ◌∷◌, ◌++◌, append_assoc}
use Rattle.std.proofs.Math.ListN.{get_or}
use Rattle.commands.specs.Commands.{PAIRED_JOB, JOB_SIZE, PAIRED_JOB_SIZE, OPERANDS_AT, ABSENT_AT, ADDS_AT, PAIRED_ADDS_AT, MASK_WIDTH, width_of}
use Rattle.numbers.specs.Numbers.{AreBytes, to_bytes, number_at}
use Rattle.numbers.specs.NumberLaws.{from_to, read_drop, number_lt, byte_there, number_there}
use Rattle.job.specs.declared.Job.{Job}
use Rattle.job.specs.Job.{StorableJob, command_by, operands_by, job_bytes, job_size, job_with, job_by, job_at, job_from}

-- the bytes that a job takes, by its command
abbrev pub size_by : Bool → ℕ
size_by false = JOB_SIZE
size_by true = PAIRED_JOB_SIZE

pub by_size : (paired : Bool) (j : Job) → suc (length (operands_by paired j)) ≡ size_by paired
unfolding to_bytes
by_size false j = refl
by_size true j = refl

-- as the table of commands has it
pub by_width : (paired : Bool) (j : Job) → width_of (command_by paired) ≡ Some (length (operands_by paired j))
unfolding to_bytes width_of
by_width false j = refl
by_width true j = refl

pub job_size_is : (j : Job) → job_size j ≡ size_by j.paired
unfolding job_size job_bytes
job_size_is j = by_size j.paired j

pub job_length : (j : Job) → length (job_bytes j) ≡ job_size j
unfolding job_size
job_length j = refl

pub size_most : (paired : Bool) → size_by paired ≤ PAIRED_JOB_SIZE
size_most false = omega arith
size_most true = omega arith

pub size_least : (paired : Bool) → JOB_SIZE ≤ size_by paired
size_least false = omega arith
size_least true = omega arith

-- the job at an offset is of the kind that its byte names
of_test : (s : List ℕ) (at : ℕ) (paired : Bool) → eqb (get_or s at 0) PAIRED_JOB ≡ paired → job_at s at ≡ job_by paired s at
unfolding job_at
of_test s at paired e = rw e

pub at_kind : (s : List ℕ) (at : ℕ) (paired : Bool) → get_or s at 0 ≡ command_by paired → job_at s at ≡ job_by paired s at
at_kind s at false e = of_test s at false (ap (λ (byte : ℕ). eqb byte PAIRED_JOB) e)
at_kind s at true e = of_test s at true (ap (λ (byte : ℕ). eqb byte PAIRED_JOB) e)

pub by_kind : (paired : Bool) (s : List ℕ) (at : ℕ) → (job_by paired s at).paired ≡ paired
by_kind false s at = refl
by_kind true s at = refl

-- ---- reading, part by part

-- the parts that are read with offsets counted from the adds on are the job's
module _ (paired : Bool) (absent adds : ℕ) (s : List ℕ) (at : ℕ) where
  deletes_at : at + adds + MASK_WIDTH ≡ at + (adds + MASK_WIDTH)
  deletes_at = omega arith

  seconds_at : at + adds + MASK_WIDTH + MASK_WIDTH ≡ at + (adds + MASK_WIDTH + MASK_WIDTH)
  seconds_at = omega arith

  pub with_parts : (j : Job) → j.paired ≡ paired → j.absent ≡ absent → j.needs ≡ number_at 8 s (at + OPERANDS_AT) → j.adds ≡ number_at 8 s (at + adds)
      → j.deletes ≡ number_at 8 s (at + adds + MASK_WIDTH) → j.seconds ≡ number_at 2 s (at + adds + MASK_WIDTH + MASK_WIDTH) → j ≡ job_with paired absent adds s at
  with_parts j p l n a d t =
      λ i. record {
        needs = n i;
        absent = l i;
        adds = a i;
        deletes = (d ∙ ap (number_at 8 s) deletes_at) i;
        seconds = (t ∙ ap (number_at 2 s) seconds_at) i;
        paired = p i;
      }

-- the job and the offset past it, by the test of its byte
module _ (s : List ℕ) (at : ℕ) where
  from_test : (paired : Bool) → eqb (get_or s at 0) PAIRED_JOB ≡ paired → record { value = job_by paired s at; next = at + size_by paired } ≡ job_from s at
  from_test paired e = rw (job_size_is (job_at s at), of_test s at paired e, by_kind paired s at)

  pub from_pair : get_or s at 0 ≡ PAIRED_JOB → record { value = job_by true s at; next = at + PAIRED_JOB_SIZE } ≡ job_from s at
  from_pair e = from_test true (eq-eqb _ _ e)

  pub from_plain : (get_or s at 0 ≡ PAIRED_JOB → ⊥) → record { value = job_by false s at; next = at + JOB_SIZE } ≡ job_from s at
  from_plain e = from_test false (ne_eqb _ _ e)

  pub kind_size : (paired : Bool) → get_or s at 0 ≡ command_by paired → job_size (job_at s at) ≡ size_by paired
  kind_size paired e = job_size_is (job_at s at) ∙ rw (at_kind s at paired e) (ap size_by (by_kind paired s at))

  -- a job has its command's byte at least
  pub from_byte : at + 1 ≤ (job_from s at).next
  from_byte = let least = size_least (job_at s at).paired in omega (arith, job_size_is (job_at s at), least)

-- ---- reading what was written

module _ (s rest : List ℕ) (at : ℕ) where
  read_by : (paired : Bool) (j : Job) → StorableJob j → j.paired ≡ paired → drop at s ≡ (command_by paired ∷ operands_by paired j) ++ rest → job_by paired s at ≡ j
  unfolding number_at to_bytes
  read_by false j h p e =
      rw (read_drop 8 s at OPERANDS_AT, read_drop 8 s at ADDS_AT, read_drop 8 s at (ADDS_AT + MASK_WIDTH), read_drop 2 s at (ADDS_AT + MASK_WIDTH + MASK_WIDTH), e)
      (λ i. record {
        needs = from_to 8 j.needs h.needs_fit i;
        absent = sym (h.unpaired p) i;
        adds = from_to 8 j.adds h.adds_fit i;
        deletes = from_to 8 j.deletes h.deletes_fit i;
        seconds = from_to 2 j.seconds h.seconds_fit i;
        paired = sym p i;
      })
  read_by true j h p e =
      rw (
        read_drop 8 s at OPERANDS_AT,
        read_drop 8 s at ABSENT_AT,
        read_drop 8 s at PAIRED_ADDS_AT,
        read_drop 8 s at (PAIRED_ADDS_AT + MASK_WIDTH),
        read_drop 2 s at (PAIRED_ADDS_AT + MASK_WIDTH + MASK_WIDTH),
        e,
      )
      (λ i. record {
        needs = from_to 8 j.needs h.needs_fit i;
        absent = from_to 8 j.absent h.absent_fit i;
        adds = from_to 8 j.adds h.adds_fit i;
        deletes = from_to 8 j.deletes h.deletes_fit i;
        seconds = from_to 2 j.seconds h.seconds_fit i;
        paired = sym p i;
      })

  front : get_or s at 0 ≡ get_or (drop at s) 0 0
  front = let z : at + 0 ≡ at = omega arith in rw z at (sym (get_or-drop at s 0 0))

  pub read_job : (j : Job) → StorableJob j → drop at s ≡ job_bytes j ++ rest → job_at s at ≡ j
  unfolding job_bytes
  read_job j h e = at_kind s at j.paired (front ∙ ap (λ (l : List ℕ). get_or l 0 0) e) ∙ read_by j.paired j h refl e

-- ---- writing what was read

module _ (s : List ℕ) (b : AreBytes s) (at : ℕ) where
  written_by : (paired : Bool) → get_or s at 0 ≡ command_by paired → at + size_by paired ≤ length s
      → (command_by paired ∷ operands_by paired (job_by paired s at)) ++ drop (at + size_by paired) s ≡ drop at s
  written_by false e l =
      simp append_assoc
      (rw (
        number_there s b 2 (at + (ADDS_AT + MASK_WIDTH + MASK_WIDTH)) (at + JOB_SIZE) (omega arith) (omega arith),
        number_there s b 8 (at + (ADDS_AT + MASK_WIDTH)) (at + (ADDS_AT + MASK_WIDTH + MASK_WIDTH)) (omega arith) (omega arith),
        number_there s b 8 (at + ADDS_AT) (at + (ADDS_AT + MASK_WIDTH)) (omega arith) (omega arith),
        number_there s b 8 (at + OPERANDS_AT) (at + ADDS_AT) (omega arith) (omega arith),
        ← e,
      )
      (byte_there s at (at + OPERANDS_AT) refl (omega arith)))
  written_by true e l =
      simp append_assoc
      (rw (
        number_there s b 2 (at + (PAIRED_ADDS_AT + MASK_WIDTH + MASK_WIDTH)) (at + PAIRED_JOB_SIZE) (omega arith) (omega arith),
        number_there s b 8 (at + (PAIRED_ADDS_AT + MASK_WIDTH)) (at + (PAIRED_ADDS_AT + MASK_WIDTH + MASK_WIDTH)) (omega arith) (omega arith),
        number_there s b 8 (at + PAIRED_ADDS_AT) (at + (PAIRED_ADDS_AT + MASK_WIDTH)) (omega arith) (omega arith),
        number_there s b 8 (at + ABSENT_AT) (at + PAIRED_ADDS_AT) (omega arith) (omega arith),
        number_there s b 8 (at + OPERANDS_AT) (at + ABSENT_AT) (omega arith) (omega arith),
        ← e,
      )
      (byte_there s at (at + OPERANDS_AT) refl (omega arith)))

  pub written_job : (paired : Bool) → get_or s at 0 ≡ command_by paired → at + size_by paired ≤ length s
      → job_bytes (job_at s at) ++ drop (at + size_by paired) s ≡ drop at s
  unfolding job_bytes
  written_job paired e l = rw (at_kind s at paired e, by_kind paired s at) (written_by paired e l)

  pub job_fits : StorableJob (job_at s at)
  unfolding job_at
  job_fits = fits_by (eqb (get_or s at 0) PAIRED_JOB)
    where
      fits_by : (paired : Bool) → StorableJob (job_by paired s at)
      fits_by false =
          record {
            needs_fit = number_lt 8 s _ b;
            absent_fit = omega arith;
            adds_fit = number_lt 8 s _ b;
            deletes_fit = number_lt 8 s _ b;
            seconds_fit = number_lt 2 s _ b;
            unpaired = λ e. refl;
          }
      fits_by true =
          record {
            needs_fit = number_lt 8 s _ b;
            absent_fit = number_lt 8 s _ b;
            adds_fit = number_lt 8 s _ b;
            deletes_fit = number_lt 8 s _ b;
            seconds_fit = number_lt 2 s _ b;
            unpaired = λ e. let z : ◌≡◌ {A = ℕ} 0 1 = cc in absurd (omega arith);
          }
