-- The columns of a table's jobs, and the job that each row comes to. Document 02, W10: a job's command is 0x20 or 0x21, and a 0x21 without absent
-- facts is no 0x20, so the columns have each job's command.
-- Definitions only.
use Rattle.std.specs.Prelude.{ℕ, zero, suc, ◌<◌, ◌^◌, ◌≡◌, Bool, ◌&&◌, ◌||◌, List, eqb, length, get_or, if◌then◌else◌, Option, Some, None}
use Rattle.base.specs.Lists.{prefix}
use Rattle.commands.specs.Commands.{JOB, PAIRED_JOB}
use Rattle.job.specs.declared.Job.{Job}

-- the columns of a table's jobs: each job's command, then what its operands hold
pub record JobColumns : Type 0 where
  pub commands : List ℕ
  pub needs : List ℕ
  pub absent : List ℕ
  pub adds : List ℕ
  pub deletes : List ℕ
  pub seconds : List ℕ

abbrev pub columns_of : (commands needs absent adds deletes seconds : List ℕ) → JobColumns
columns_of commands needs absent adds deletes seconds =
    record { commands = commands; needs = needs; absent = absent; adds = adds; deletes = deletes; seconds = seconds }

-- the numbers of the columns are those that their slices can hold
pub record ColumnsFit (c : JobColumns) : Type 0 where
  pub needs_fit : (i : ℕ) → get_or c.needs i 0 < 2 ^ 64
  pub absent_fit : (i : ℕ) → get_or c.absent i 0 < 2 ^ 64
  pub adds_fit : (i : ℕ) → get_or c.adds i 0 < 2 ^ 64
  pub deletes_fit : (i : ℕ) → get_or c.deletes i 0 < 2 ^ 64
  pub seconds_fit : (i : ℕ) → get_or c.seconds i 0 < 2 ^ 16

-- a 0x21 has a place for any absent facts, a 0x20 for none, and no other command is a job's
abbrev pub writable : (command absent : ℕ) → Bool
writable command absent = eqb command PAIRED_JOB || (eqb command JOB && eqb absent 0)

-- of so many rows from row i on, the first that no command's bytes can hold
unfoldable pub unwritable_from : (commands absent : List ℕ) (count i : ℕ) → Option ℕ
unwritable_from commands absent zero i = None
unwritable_from commands absent (suc count) i =
    let later = unwritable_from commands absent count (suc i) in
    if writable (get_or commands i 0) (get_or absent i 0) then later else Some i

module _ (c : JobColumns) where
  -- the columns are as long as each other
  unfoldable pub even : Bool
  even =
      let as_long : List ℕ → Bool = λ column. eqb (length column) (length c.commands) in
      as_long c.needs && (as_long c.absent && (as_long c.adds && (as_long c.deletes && as_long c.seconds)))

  -- the same, column by column
  pub record EvenColumns : Type 0 where
    pub needs_long : length c.needs ≡ length c.commands
    pub absent_long : length c.absent ≡ length c.commands
    pub adds_long : length c.adds ≡ length c.commands
    pub deletes_long : length c.deletes ≡ length c.commands
    pub seconds_long : length c.seconds ≡ length c.commands

  -- the first row that no command's bytes can hold
  abbrev pub first_unwritable : Option ℕ
  first_unwritable = unwritable_from c.commands c.absent (length c.commands) 0

  abbrev pub row_at : ℕ → Job
  row_at i =
      record {
        needs = get_or c.needs i 0;
        absent = get_or c.absent i 0;
        adds = get_or c.adds i 0;
        deletes = get_or c.deletes i 0;
        seconds = get_or c.seconds i 0;
        paired = eqb (get_or c.commands i 0) PAIRED_JOB;
      }

  -- the jobs of all rows
  abbrev pub rows : List Job
  rows = prefix row_at (length c.commands)
