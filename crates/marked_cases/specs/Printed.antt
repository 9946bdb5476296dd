-- What the program prints for document 01's files, for a table with a 0x21, and for some files that it refuses.
-- Definitions only; Computed.antt computes them.
use Rattle.std.specs.Prelude.{List, [], ◌∷◌, ◌++◌, ℕ, take}
use Prim.Native.String.{String}
use Rattle.numbers.specs.Numbers.{to_bytes}
use Rattle.text_fields.specs.Fields.{ascii}
use Rattle.program_text.specs.Program.{program_text}
use Rattle.marked_cases.specs.Trailer.{trailer_bytes}
use Rattle.marked_cases.specs.OneFactLess.{one_fact_less_bytes}

abbrev lines : List String → List ℕ
lines [] = []
lines (s ∷ rest) = ascii s ++ (ascii "\n" ++ lines rest)

abbrev start_bytes : ℕ → ℕ → List ℕ
start_bytes held unread = to_bytes 8 held ++ to_bytes 8 unread

pub record Print : Type 0 where
  pub found : List ℕ
  pub expected : List ℕ

-- `bay.tab`, `start.bay` and what is printed
infix 4 ◌with◌prints◌
abbrev ◌with◌prints◌ : List ℕ → List ℕ → List String → Print
table with start prints text = record { found = program_text table start; expected = lines text }

abbrev pub prints : List Print
prints =
    -- P1
    (trailer_bytes with start_bytes 0x02 0 prints
    "plan 8 111"
    ∷ "0 0000000000000010 - 0 0"
    ∷ "1 000000000000000c 4 0 1"
    ∷ "2 0000000000000009 2 1 2"
    ∷ "3 0000000000000006 3 1 2"
    ∷ "4 000000000000000a 1 2 3"
    ∷ "5 0000000000000003 3 2 3"
    ∷ "6 0000000000000005 0 3 3"
    ∷ "7 0000000000000002 3 4 4"
    ∷ "way 4 26"
    ∷ [])
    -- document 02, W10: "`bayplan` prints each after the first"
    ∷ (one_fact_less_bytes with start_bytes 0x01 0 prints
    "plan 7 153"
    ∷ "0 0000000000000008 0000000000000000 - 0 0"
    ∷ "1 0000000000000006 0000000000000000 4 0 1"
    ∷ "2 0000000000000004 0000000000000001 2 1 2"
    ∷ "3 0000000000000003 0000000000000000 3 1 2"
    ∷ "4 0000000000000005 0000000000000000 1 2 3"
    ∷ "5 0000000000000002 0000000000000001 0 3 3"
    ∷ "6 0000000000000001 0000000000000000 3 4 4"
    ∷ "way 4 26"
    ∷ [])
    -- P3 with lists of 4,096
    ∷ (trailer_bytes with start_bytes 0x08 0 prints "refused 11 9" ∷ [])
    -- a start with an unread fact
    ∷ (trailer_bytes with start_bytes 0x02 0x08 prints "refused 9 0" ∷ [])
    -- starts of 15 and 17 bytes
    ∷ (trailer_bytes with take 15 (start_bytes 0x02 0) prints "refused 8 0" ∷ [])
    ∷ (trailer_bytes with start_bytes 0x02 0 ++ (0x00 ∷ []) prints "refused 8 0" ∷ [])
    -- a table with a byte more; one that is cut, with no start at all
    ∷ (trailer_bytes ++ (0x00 ∷ []) with start_bytes 0x02 0 prints "refused 7 147" ∷ [])
    ∷ (take 146 trailer_bytes with [] prints "refused 1 146" ∷ [])
    ∷ []
