-- What the C functions that read and write a table give, in the words of include/bay.h.
-- Definitions only.
use Rattle.std.specs.Prelude.{List, [], ◌∷◌, ℕ}
use Rattle.job.specs.declared.Job.{Job}
use Rattle.job.specs.Job.{command_by}
use Rattle.table.specs.declared.Header.{Header}
use Rattle.table_writer.specs.Write.{Writing, written, short, uneven, unwritable, unsound}
use Rattle.bay_words.specs.Words.{flag_word}

-- the last word tells whether the table has a 0x21
abbrev pub header_words : Header → List ℕ
header_words h = h.facts ∷ h.jobs ∷ h.goal ∷ flag_word h.paired ∷ []

-- the last word is the job's command
abbrev pub job_words : Job → List ℕ
job_words j = j.needs ∷ j.adds ∷ j.deletes ∷ j.seconds ∷ j.absent ∷ command_by j.paired ∷ []

-- BAY_TOO_SHORT, BAY_UNEVEN and BAY_UNWRITABLE besides the refusals
abbrev pub writing_words : Writing → List ℕ
writing_words (written n) = 0 ∷ n ∷ []
writing_words (short n) = 100 ∷ n ∷ []
writing_words uneven = 101 ∷ 0 ∷ []
writing_words (unwritable i) = 103 ∷ i ∷ []
writing_words (unsound number place) = number ∷ place ∷ []
