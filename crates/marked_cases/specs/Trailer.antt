-- Document 01, "A trailer on the hitch": its table and the 147 bytes of it, which reader and writer agree on, by computation.
-- Assumes nothing.
use Rattle.std.specs.Prelude.{ℕ, ◌≡◌, refl, false, List, [], ◌∷◌, map, length}
use Rattle.masks.specs.Sets.{intersects, within}
use Rattle.refusal.specs.Checked.{accepted}
use Rattle.commands.specs.Commands.{width_of, command_at}
use Rattle.numbers.specs.Numbers.{from_bytes, to_bytes, number_at}
use Rattle.job.specs.declared.Job.{Job}
use Rattle.job.specs.Job.{command_by, job_bytes, job_size, job_at}
use Rattle.job.specs.Validation.{validated_job}
use Rattle.table.specs.Table.{Table, jobs_bytes, goal_bytes, table_bytes}
use Rattle.table.specs.Read.{due, read_end, read_goal, read_jobs, read_table}
use Rattle.table.specs.Sound.{validated_from, validated_table}
use Rattle.table_writer.specs.Columns.{JobColumns, columns_of, unwritable_from, even}
use Rattle.table_writer.specs.Write.{written, writing}

abbrev pub job : ℕ → ℕ → ℕ → ℕ → Job
job needs adds deletes seconds = record { needs = needs; absent = 0; adds = adds; deletes = deletes; seconds = seconds; paired = false }

-- the columns that the table writer takes
abbrev pub columns_from : List Job → JobColumns
columns_from js =
    columns_of (map (λ j. command_by j.paired) js) (map (λ j. j.needs) js) (map (λ j. j.absent) js) (map (λ j. j.adds) js) (map (λ j. j.deletes) js)
    (map (λ j. j.seconds) js)

-- 0 couple, 1 uncouple, 2 measure unloaded, 3 measure loaded, 4 seal
abbrev pub trailer : Table
trailer =
    record {
      facts = 5;
      jobs = job 0x01 0x02 0x01 300 ∷ job 0x02 0x01 0x02 240 ∷ job 0x01 0x04 0x00 600 ∷ job 0x02 0x08 0x00 600 ∷ job 0x0c 0x10 0x00 150 ∷ [];
      goal = 0x10;
    }

-- FACTS; five times JOB with needs, adds, deletes and seconds; GOAL; END
abbrev pub trailer_bytes : List ℕ
trailer_bytes =
    0x10 ∷ 0x05
    ∷ 0x20
    ∷ 0x01 ∷ 0x00 ∷ 0x00 ∷ 0x00 ∷ 0x00 ∷ 0x00 ∷ 0x00 ∷ 0x00
    ∷ 0x02 ∷ 0x00 ∷ 0x00 ∷ 0x00 ∷ 0x00 ∷ 0x00 ∷ 0x00 ∷ 0x00
    ∷ 0x01 ∷ 0x00 ∷ 0x00 ∷ 0x00 ∷ 0x00 ∷ 0x00 ∷ 0x00 ∷ 0x00
    ∷ 0x2c ∷ 0x01
    ∷ 0x20
    ∷ 0x02 ∷ 0x00 ∷ 0x00 ∷ 0x00 ∷ 0x00 ∷ 0x00 ∷ 0x00 ∷ 0x00
    ∷ 0x01 ∷ 0x00 ∷ 0x00 ∷ 0x00 ∷ 0x00 ∷ 0x00 ∷ 0x00 ∷ 0x00
    ∷ 0x02 ∷ 0x00 ∷ 0x00 ∷ 0x00 ∷ 0x00 ∷ 0x00 ∷ 0x00 ∷ 0x00
    ∷ 0xf0 ∷ 0x00
    ∷ 0x20
    ∷ 0x01 ∷ 0x00 ∷ 0x00 ∷ 0x00 ∷ 0x00 ∷ 0x00 ∷ 0x00 ∷ 0x00
    ∷ 0x04 ∷ 0x00 ∷ 0x00 ∷ 0x00 ∷ 0x00 ∷ 0x00 ∷ 0x00 ∷ 0x00
    ∷ 0x00 ∷ 0x00 ∷ 0x00 ∷ 0x00 ∷ 0x00 ∷ 0x00 ∷ 0x00 ∷ 0x00
    ∷ 0x58 ∷ 0x02
    ∷ 0x20
    ∷ 0x02 ∷ 0x00 ∷ 0x00 ∷ 0x00 ∷ 0x00 ∷ 0x00 ∷ 0x00 ∷ 0x00
    ∷ 0x08 ∷ 0x00 ∷ 0x00 ∷ 0x00 ∷ 0x00 ∷ 0x00 ∷ 0x00 ∷ 0x00
    ∷ 0x00 ∷ 0x00 ∷ 0x00 ∷ 0x00 ∷ 0x00 ∷ 0x00 ∷ 0x00 ∷ 0x00
    ∷ 0x58 ∷ 0x02
    ∷ 0x20
    ∷ 0x0c ∷ 0x00 ∷ 0x00 ∷ 0x00 ∷ 0x00 ∷ 0x00 ∷ 0x00 ∷ 0x00
    ∷ 0x10 ∷ 0x00 ∷ 0x00 ∷ 0x00 ∷ 0x00 ∷ 0x00 ∷ 0x00 ∷ 0x00
    ∷ 0x00 ∷ 0x00 ∷ 0x00 ∷ 0x00 ∷ 0x00 ∷ 0x00 ∷ 0x00 ∷ 0x00
    ∷ 0x96 ∷ 0x00
    ∷ 0x30
    ∷ 0x10 ∷ 0x00 ∷ 0x00 ∷ 0x00 ∷ 0x00 ∷ 0x00 ∷ 0x00 ∷ 0x00
    ∷ 0x3f
    ∷ []

-- "The table has 147 bytes."
pub trailer_size : length trailer_bytes ≡ 147
trailer_size = refl

pub trailer_bytes_are : table_bytes trailer ≡ trailer_bytes
unfolding table_bytes jobs_bytes job_bytes goal_bytes to_bytes
trailer_bytes_are = refl

pub trailer_read : read_table trailer_bytes ≡ accepted trailer
unfolding read_table read_jobs read_goal read_end due validated_job job_at command_at width_of number_at from_bytes within intersects
trailer_read = refl

pub trailer_written : writing (columns_from trailer.jobs) trailer.facts trailer.goal 147 ≡ written 147
unfolding writing even unwritable_from table_bytes jobs_bytes job_bytes job_size goal_bytes to_bytes validated_table validated_from validated_job within intersects
trailer_written = refl
