-- The table writer: a table from its columns to bytes in a lent slice. Document 01 names it among "both writers"; what it takes and refuses is our
-- choice: a table that is not sound gets the refusal that reading its bytes would give, and nothing is written then. A number of facts that no byte
-- can hold is refused as any other that is not 1 to 64. Document 02, W10: a job's command is 0x20 or 0x21, and a 0x21 without absent facts is no 0x20,
-- so the columns have each job's command. A row that no command's bytes can hold is told before anything else is judged: no mask is left out.
-- Definitions only.
use Rattle.std.specs.Prelude.{ℕ, ◌<◌, ◌≡◌, List, ◌++◌, leb, length, drop, if◌then◌else◌, Option, Some, None, Result, Ok, Err}
use Rattle.refusal.specs.Numbers.{number_of}
use Rattle.refusal.specs.Checked.{Checked, accepted, refused, and_then}
use Rattle.table.specs.Table.{Table, table_bytes, goal_offset}
use Rattle.table.specs.Read.{read_table}
use Rattle.table.specs.Sound.{validated_table}
use Rattle.table_writer.specs.declared.columns.Columns.{Columns}
use Rattle.table_writer.specs.Columns.{JobColumns, columns_of, even, first_unwritable, rows}
use Rattle.table_writer.specs.declared.NotWritten.{NotWritten}

-- the columns that the code is given
abbrev pub columns_in : Columns → JobColumns
columns_in c = columns_of c.commands.now c.needs.now c.absent.now c.adds.now c.deletes.now c.seconds.now

abbrev pub table_of : JobColumns → (facts goal : ℕ) → Table
table_of c facts goal = record { facts = facts; jobs = rows c; goal = goal }

-- what comes of writing a table
pub data Writing : Type 0 where
  -- so many bytes, from the beginning of the lent slice
  written : ℕ → Writing
  -- the lent slice is too short for so many bytes
  short : ℕ → Writing
  -- the columns differ in length
  uneven : Writing
  -- no command's bytes can hold this row
  unwritable : ℕ → Writing
  -- it is refused with this number and place
  unsound : (number place : ℕ) → Writing

abbrev pub validated_writing : Checked Table → ℕ → ℕ → Writing
validated_writing (refused n p) size room = unsound n p
validated_writing (accepted t) size room = if leb size room then written size else short size

-- a row that cannot be written is told before the table is judged
abbrev pub rows_writing : Option ℕ → Writing → Writing
rows_writing (Some i) w = unwritable i
rows_writing None w = w

unfoldable pub writing : JobColumns → (facts goal room : ℕ) → Writing
writing c facts goal room =
    let t = table_of c facts goal in
    if even c then rows_writing (first_unwritable c) (validated_writing (validated_table t) (length (table_bytes t)) room) else uneven

-- the lent slice afterwards: only a table that was written changes it, and nothing past its bytes
abbrev pub lent_after : Writing → List ℕ → List ℕ → List ℕ
lent_after (written n) bytes before = bytes ++ drop n before
lent_after (short n) bytes before = before
lent_after uneven bytes before = before
lent_after (unwritable i) bytes before = before
lent_after (unsound n p) bytes before = before

-- ---- the answers of the code, in these terms

abbrev pub table_written_of : Result ℕ NotWritten → Writing
table_written_of (Ok n) = written n
table_written_of (Err (NotWritten.TooShort n)) = short n
table_written_of (Err NotWritten.Uneven) = uneven
table_written_of (Err (NotWritten.Unwritable i)) = unwritable i
table_written_of (Err (NotWritten.Refused x)) = unsound (number_of x.reason) x.place

pub record Wrote (c : JobColumns) (facts goal : ℕ) (before after : List ℕ) (r : Result ℕ NotWritten) : Type 0 where
  pub answer : table_written_of r ≡ writing c facts goal (length before)
  pub lent : after ≡ lent_after (writing c facts goal (length before)) (table_bytes (table_of c facts goal)) before
  -- the checks are those of reading, wherever there are bytes to read
  pub as_read : first_unwritable c ≡ None → facts < 256 → validated_table (table_of c facts goal) ≡ read_table (table_bytes (table_of c facts goal))

-- where GOAL stands in a table that passed the checks
abbrev pub placed : Checked Table → Checked ℕ
placed r = and_then r λ t. accepted (goal_offset t)
