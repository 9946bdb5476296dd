-- The workshop's trailer with one fact less: "trailer off" is the absence of "trailer on" (document 02, W10: "Some jobs need the trailer to be off, and a
-- second fact for that is clumsy."). Its table has both JOB commands; reader and writer agree on its 163 bytes, by computation.
-- Assumes nothing.
use Rattle.std.specs.Prelude.{ℕ, ◌≡◌, refl, true, List, [], ◌∷◌, ◌++◌, length}
use Rattle.masks.specs.Sets.{intersects, within}
use Rattle.refusal.specs.Checked.{accepted}
use Rattle.commands.specs.Commands.{width_of, command_at}
use Rattle.numbers.specs.Numbers.{from_bytes, to_bytes, number_at}
use Rattle.job.specs.declared.Job.{Job}
use Rattle.job.specs.Job.{job_bytes, job_size, job_at}
use Rattle.job.specs.Validation.{validated_job}
use Rattle.table.specs.Table.{Table, jobs_bytes, goal_bytes, table_bytes}
use Rattle.table.specs.Read.{due, read_end, read_goal, read_jobs, read_table}
use Rattle.table.specs.Sound.{validated_from, validated_table}
use Rattle.table_writer.specs.Columns.{unwritable_from, even}
use Rattle.table_writer.specs.Write.{written, writing}
use Rattle.marked_cases.specs.Trailer.{job, columns_from}

-- a 0x21
abbrev pub paired_job : ℕ → ℕ → ℕ → ℕ → ℕ → Job
paired_job needs absent adds deletes seconds = record { needs = needs; absent = absent; adds = adds; deletes = deletes; seconds = seconds; paired = true }

-- facts: 0 trailer on, 1 unloaded known, 2 loaded known, 3 sealed; jobs: 0 couple, 1 uncouple, 2 measure unloaded, 3 measure loaded, 4 seal
abbrev pub one_fact_less : Table
one_fact_less =
    record {
      facts = 4;
      jobs =
          paired_job 0x00 0x01 0x01 0x00 300 ∷ job 0x01 0x00 0x01 240 ∷ paired_job 0x00 0x01 0x02 0x00 600 ∷ job 0x01 0x04 0x00 600 ∷ job 0x06 0x08 0x00 150 ∷ [];
      goal = 0x08;
    }

-- a mask of the first eight facts
abbrev pub mask : ℕ → List ℕ
mask low = low ∷ 0x00 ∷ 0x00 ∷ 0x00 ∷ 0x00 ∷ 0x00 ∷ 0x00 ∷ 0x00 ∷ []

-- "needs, absent, adds, deletes and seconds", of a 0x20 without absent
abbrev pub one_fact_less_bytes : List ℕ
one_fact_less_bytes =
    0x10 ∷ 0x04
    ∷ 0x21 ∷ mask 0x00 ++ mask 0x01 ++ mask 0x01 ++ mask 0x00 ++ 0x2c ∷ 0x01
    ∷ 0x20 ∷ mask 0x01 ++ mask 0x00 ++ mask 0x01 ++ 0xf0 ∷ 0x00
    ∷ 0x21 ∷ mask 0x00 ++ mask 0x01 ++ mask 0x02 ++ mask 0x00 ++ 0x58 ∷ 0x02
    ∷ 0x20 ∷ mask 0x01 ++ mask 0x04 ++ mask 0x00 ++ 0x58 ∷ 0x02
    ∷ 0x20 ∷ mask 0x06 ++ mask 0x08 ++ mask 0x00 ++ 0x96 ∷ 0x00
    ∷ 0x30 ∷ mask 0x08 ++ 0x3f ∷ []

pub less_size : length one_fact_less_bytes ≡ 163
less_size = refl

pub less_bytes : table_bytes one_fact_less ≡ one_fact_less_bytes
unfolding table_bytes jobs_bytes job_bytes goal_bytes to_bytes
less_bytes = refl

pub less_read : read_table one_fact_less_bytes ≡ accepted one_fact_less
unfolding read_table read_jobs read_goal read_end due validated_job job_at command_at width_of number_at from_bytes within intersects
less_read = refl

pub less_written : writing (columns_from one_fact_less.jobs) one_fact_less.facts one_fact_less.goal 163 ≡ written 163
unfolding writing even unwritable_from table_bytes jobs_bytes job_bytes job_size goal_bytes to_bytes validated_table validated_from validated_job within intersects
less_written = refl
