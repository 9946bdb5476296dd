-- What the program lends to make its text, and what it finds there: the text that is due, whole, at the front of a lent slice.
-- Definitions only.
use Rattle.std.specs.Prelude.{◌≡◌, false, List, ℕ, ◌+◌, ◌*◌, ◌≤◌, length, take, Err, Ok, Result}
use Rattle.refusal.specs.Numbers.{number_of}
use Rattle.reading.specs.declared.Reading.{Reading}
use Rattle.reading.specs.Reading.{sound}
use Rattle.expander.specs.Expands.{Columns, held}
use Rattle.planner.specs.declared.Summary.{Summary}
use Rattle.plan_text.specs.Text.{plan_text, refused_text, entry_line, other_lines}
use Rattle.plan_text.specs.Writes.{shown}
use Rattle.program_text.specs.Program.{lent_entries, start_size, start_of, program_text}
use Rattle.program_text.specs.Files.{table_front, start_front, Holds}
use Rattle.refusal.specs.declared.Refusal.{Refusal}

-- room for the longest text: as many lines as any list has, each as long as one with both masks
abbrev pub text_room : ℕ
text_room = entry_line * lent_entries + other_lines

-- the buffers that the files are read into, with the number of bytes that were read, and a slice for the text
pub record Lent (table : List ℕ) (n : ℕ) (start : List ℕ) (m : ℕ) (out : List ℕ) : Type 0 where
  pub table_room : table_front ≤ length table
  pub table_count : n ≤ length table
  pub start_room : start_front ≤ length start
  pub start_count : m ≤ length start
  pub text_room_fits : text_room ≤ length out

-- `count` bytes, and they are the whole text. That `count` is the length of what it counts lets a caller print that part.
pub record Shows (text out : List ℕ) (count : ℕ) : Type 0 where
  pub within : count ≤ length out
  pub counted : count ≡ length (take count out)
  pub shows : take count out ≡ text

-- the text of the whole files, for all files of which the buffers hold the first n and m bytes
pub record Prints (table : List ℕ) (n : ℕ) (start : List ℕ) (m : ℕ) (out : List ℕ) (count : ℕ) : Type 0 where
  pub within : count ≤ length out
  pub counted : count ≡ length (take count out)
  pub prints : (table_file start_file : List ℕ) → Holds table n table_file → Holds start m start_file → take count out ≡ program_text table_file start_file

-- the reading that is planned from: the start's, or, for a file of another length, one that no table takes
pub record PlannedFrom (start : List ℕ) (r : Reading) : Type 0 where
  pub of_start : length start ≡ start_size → r ≡ start_of start
  pub of_other : (length start ≡ start_size → ⊥) → (facts : ℕ) → sound facts r ≡ false

-- how many entries of the list tables a plan shows
abbrev pub shown_in : Summary → Columns → ℕ
shown_in s lists = shown s.paired s.entries lists.conditions lists.absences lists.actions lists.parents lists.depths

-- how many entries a plan's answer tells
abbrev pub entries_in : (Result Summary Refusal) → ℕ
entries_in (Err x) = 0
entries_in (Ok s) = s.entries

-- a list of no more than 4,096, and room for its text
pub record Fits (planned : (Result Summary Refusal)) (out : List ℕ) : Type 0 where
  pub entries : entries_in planned ≤ lent_entries
  pub text_room_fits : text_room ≤ length out

-- the text of a plan's answer, whose list stands in the list tables
abbrev pub planned_text : (Result Summary Refusal) → Columns → List ℕ
planned_text (Err x) lists = refused_text (number_of x.reason) x.place
planned_text (Ok s) lists = plan_text s.paired s.entries s.bytes (held lists (shown_in s lists)) s.jobs s.minutes
