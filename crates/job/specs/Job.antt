-- One job, and its bytes: document 01, "Commands"; document 02, W10.
-- Definitions only.
use Rattle.std.specs.Prelude.{ℕ, ◌+◌, ◌^◌, ◌<◌, ◌≡◌, Bool, true, false, List, ◌∷◌, ◌++◌, eqb, length, get_or}
use Rattle.commands.specs.Commands.{JOB, PAIRED_JOB, OPERANDS_AT, ABSENT_AT, ADDS_AT, PAIRED_ADDS_AT, MASK_WIDTH, Past}
use Rattle.numbers.specs.Numbers.{to_bytes, number_at}
use Rattle.conditions.specs.declared.Action.{Action}
use Rattle.job.specs.declared.Job.{Job}
use Rattle.job.specs.declared.PastJob.{PastJob}

-- what `get_or` gives past the last job
abbrev pub no_job : Job
no_job = record { needs = 0; absent = 0; adds = 0; deletes = 0; seconds = 0; paired = false }

-- what the job needs and does, without its seconds
abbrev pub action_of : Job → Action
action_of j = record { needs = j.needs; absent = j.absent; adds = j.adds; deletes = j.deletes }

-- the job's numbers are those that its operands can hold; a JOB has none for absent facts
pub record StorableJob (j : Job) : Type 0 where
  pub needs_fit : j.needs < 2 ^ 64
  pub absent_fit : j.absent < 2 ^ 64
  pub adds_fit : j.adds < 2 ^ 64
  pub deletes_fit : j.deletes < 2 ^ 64
  pub seconds_fit : j.seconds < 2 ^ 16
  pub unpaired : j.paired ≡ false → j.absent ≡ 0

-- what follows the needs, and in a 0x21 the absent facts: "adds, deletes (8 bytes each), seconds (2 bytes)"
abbrev pub effect_bytes : Job → List ℕ
effect_bytes j = to_bytes 8 j.adds ++ (to_bytes 8 j.deletes ++ to_bytes 2 j.seconds)

abbrev pub command_by : Bool → ℕ
command_by false = JOB
command_by true = PAIRED_JOB

-- "needs, absent, adds, deletes and seconds", of a 0x20 without absent
abbrev pub operands_by : Bool → Job → List ℕ
operands_by false j = to_bytes 8 j.needs ++ effect_bytes j
operands_by true j = to_bytes 8 j.needs ++ (to_bytes 8 j.absent ++ effect_bytes j)

-- a 0x21 without absent facts is no 0x20
unfoldable pub job_bytes : Job → List ℕ
job_bytes j = command_by j.paired ∷ operands_by j.paired j

unfoldable pub job_size : Job → ℕ
job_size j = length (job_bytes j)

-- the operands of the job at an offset; its adds stand `adds` bytes on
abbrev pub job_with : (paired : Bool) (absent adds : ℕ) → List ℕ → ℕ → Job
job_with paired absent adds s at =
    record {
      needs = number_at 8 s (at + OPERANDS_AT);
      absent = absent;
      adds = number_at 8 s (at + adds);
      deletes = number_at 8 s (at + (adds + MASK_WIDTH));
      seconds = number_at 2 s (at + (adds + MASK_WIDTH + MASK_WIDTH));
      paired = paired;
    }

-- by its command
abbrev pub job_by : Bool → List ℕ → ℕ → Job
job_by false s at = job_with false 0 ADDS_AT s at
job_by true s at = job_with true (number_at 8 s (at + ABSENT_AT)) PAIRED_ADDS_AT s at

unfoldable pub job_at : List ℕ → ℕ → Job
job_at s at = job_by (eqb (get_or s at 0) PAIRED_JOB) s at

-- the job at an offset, and the offset past it
abbrev pub job_from : List ℕ → ℕ → Past Job
job_from s at = record { value = job_at s at; next = at + job_size (job_at s at) }

-- the answer of the code, in these terms
abbrev pub past_job_of : PastJob → Past Job
past_job_of r = record { value = r.job; next = r.next }
