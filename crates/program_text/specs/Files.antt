-- How far the program has to read its files, and what a buffer holds of a file.
-- Definitions only.
use Rattle.std.specs.Prelude.{◌≡◌, List, [], ◌∷◌, ℕ, ◌+◌, ◌*◌, max, min, length, take, if◌then◌else◌}
use Rattle.commands.specs.declared.Command.{Command}
use Rattle.commands.specs.Commands.{commands}
use Rattle.table.specs.declared.Stage.{Stage}
use Rattle.table.specs.declared.Stage.TheVariants.{First, Middle}
use Rattle.table.specs.Table.{max_jobs}
use Rattle.table.specs.Read.{allowed}
use Rattle.program_text.specs.Program.{start_size}

-- the bytes of the widest command, its own and its operands', that may stand at a stage of a table
abbrev pub widest_in : Stage → List Command → ℕ
widest_in stage [] = 0
widest_in stage (c ∷ cs) = max (if allowed stage c.byte then 1 + c.width else 0) (widest_in stage cs)

abbrev pub widest : Stage → ℕ
widest stage = widest_in stage commands

-- the bytes of a table that decide on it: FACTS, 128 JOBs, and the 129th, which is a stop, all of the wider kind
abbrev pub table_front : ℕ
table_front = widest First + widest Middle * (max_jobs + 1)

-- the bytes of a start that decide on it: one more than it has tells a longer file
abbrev pub start_front : ℕ
start_front = start_size + 1

-- the first `count` bytes of a buffer are the file's: the whole file, or as much of it as the buffer has room for
pub record Holds (buffer : List ℕ) (count : ℕ) (file : List ℕ) : Type 0 where
  pub counted : count ≡ min (length file) (length buffer)
  pub held : take count buffer ≡ take count file
