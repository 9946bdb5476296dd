-- What the program prints, from the bytes of `bay.tab` and `start.bay`: document 01, "A trailer on the hitch"; document 02, W10.
-- Definitions only.
use Rattle.std.specs.Prelude.{Bool, List, ℕ, eqb, length, if◌then◌else◌}
use Rattle.refusal.specs.Checked.{Checked, accepted, refused}
use Rattle.numbers.specs.Numbers.{number_at}
use Rattle.reading.specs.declared.Reading.{Reading}
use Rattle.table.specs.Read.{read_table}
use Rattle.conditions.specs.declared.Condition.{Condition}
use Rattle.planning.specs.Expansion.{Entry}
use Rattle.expander.specs.Expands.{capacity_of}
use Rattle.builder.specs.Plan.{Plan, no_plan, after_checks}
use Rattle.planner.specs.declared.Summary.{Summary}
use Rattle.planner.specs.Plan.{plan_for}
use Rattle.plan_text.specs.Text.{plan_text, refused_text}

-- "It lends lists of 4,096 and a tree of 65,535 bytes.", and the second masks are lent like the others
abbrev pub lent_entries : ℕ
lent_entries = 4096

-- how many entries have room there, by whether the list is paired
abbrev pub capacity : Bool → ℕ
capacity paired = capacity_of paired lent_entries lent_entries lent_entries lent_entries lent_entries

abbrev pub tree_room : ℕ
tree_room = 65535

-- "`start.bay` (held, unread; any length but 16 is number 8)"
abbrev pub start_size : ℕ
start_size = 16

abbrev pub start_of : List ℕ → Reading
start_of start = record { held = number_at 8 start 0; unread = number_at 8 start 8 }

-- a start of another length is number 8, after the table's own stops, which are checked before it
unfoldable pub files_plan : List ℕ → List ℕ → Plan Summary
files_plan table start =
    if eqb (length start) start_size then plan_for table (start_of start) capacity tree_room else after_checks (read_table table) (λ t. no_plan 8 0)

-- the plan's text, or "A stop prints one line only"
abbrev pub answer_text : Checked Summary → List (Entry Condition) → List ℕ
answer_text (accepted s) l = plan_text s.paired s.entries s.bytes l s.jobs s.minutes
answer_text (refused number place) l = refused_text number place

abbrev pub text_of : Plan Summary → List ℕ
text_of P = answer_text P.answer P.list

unfoldable pub program_text : List ℕ → List ℕ → List ℕ
program_text table start = text_of (files_plan table start)
