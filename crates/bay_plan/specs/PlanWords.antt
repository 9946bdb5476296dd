-- What both plans give, in the words of include/bay.h.
-- Definitions only.
use Rattle.std.specs.Prelude.{◌≡◌, List, [], ◌∷◌, ℕ, length}
use Rattle.refusal.specs.Checked.{accepted}
use Rattle.reading.specs.declared.Reading.{Reading}
use Rattle.table.specs.Table.{Table}
use Rattle.table.specs.Read.{read_table}
use Rattle.expander.specs.Expands.{Columns, room}
use Rattle.builder.specs.declared.Size.{Size}
use Rattle.builder.specs.Plan.{Plan, WritesPlan}
use Rattle.planner.specs.declared.Summary.{Summary}
use Rattle.planner.specs.Promise.{Keeps}
use Rattle.shift_planner.specs.Shift.{Serves}
use Rattle.bay_words.specs.Words.{words, flag_word, Answered}

-- entries, bytes of the tree, of the way its jobs and its minutes, and whether list and tree hold second masks
abbrev pub summary_words : Summary → List ℕ
summary_words s = s.entries ∷ s.bytes ∷ s.jobs ∷ s.minutes ∷ flag_word s.paired ∷ []

-- entries, bytes of the tree, and whether both hold second masks
abbrev pub size_words : Size → List ℕ
size_words s = s.entries ∷ s.bytes ∷ flag_word s.paired ∷ []

-- what a plan promises of the lent list tables and tree and of its answer, `due` being the definition's; and what holds of every plan
pub record PlanAnswered (table : List ℕ) (start : Reading) (due : Plan Summary) (before after : Columns) (tree_before tree_after lent : List ℕ) (result : ℕ)
    : Type 0 where
  pub writes : WritesPlan due before after tree_before tree_after due.answer
  pub answers : Answered (words 6 summary_words due.answer) lent result
  pub keeps : (t : Table) → read_table table ≡ accepted t → Keeps t table start (room before) (length tree_before) due

-- the same of a plan for the whole shift
pub record ShiftAnswered (table : List ℕ) (due : Plan Size) (before after : Columns) (tree_before tree_after lent : List ℕ) (result : ℕ) : Type 0 where
  pub writes : WritesPlan due before after tree_before tree_after due.answer
  pub answers : Answered (words 4 size_words due.answer) lent result
  pub serves : (t : Table) → read_table table ≡ accepted t → Serves t table (room before) (length tree_before) due
