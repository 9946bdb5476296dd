-- The text that the program prints: document 01, "A trailer on the hitch"; document 02, W10. The list is `paired` once its table has a 0x21.
-- Definitions only.
use Rattle.std.specs.Prelude.{Bool, true, false, List, [], ◌∷◌, ◌++◌, ℕ, zero, suc, ◌+◌}
use Rattle.text_fields.specs.Fields.{ascii, decimal, mask_text}
use Rattle.conditions.specs.declared.Condition.{Condition}
use Rattle.planning.specs.Expansion.{Entry}

-- a line of a first field and others: "one space stands between fields, and a line feed ends each line"
abbrev pub line : List ℕ → List (List ℕ) → List ℕ
line field [] = field ++ ascii "\n"
line field (next ∷ fields) = field ++ (ascii " " ++ line next fields)

-- "mask"; of a paired list the "second masks .. (.. `bayplan` prints each after the first)"
abbrev pub condition_text : (paired : Bool) → Condition → List ℕ
condition_text false c = mask_text c.present
condition_text true c = mask_text c.present ++ (ascii " " ++ mask_text c.absent)

-- "job or -": entry 0 has no job
abbrev pub job_text : (entry job : ℕ) → List ℕ
job_text zero job = ascii "-"
job_text (suc entry) job = decimal job

module _ (paired : Bool) where
  -- "entry, mask, job or -, parent, depth"
  abbrev pub entry_text : ℕ → Entry Condition → List ℕ
  entry_text i e =
      line (decimal i) (condition_text paired e.condition ∷ job_text i e.action ∷ decimal e.parent ∷ decimal e.depth ∷ [])

  -- the entries' lines, from entry i on
  unfoldable pub entries_text : ℕ → List (Entry Condition) → List ℕ
  entries_text i [] = []
  entries_text i (e ∷ l) = entry_text i e ++ entries_text (suc i) l

  -- "`plan`, entries, tree bytes; then entry, ..; then `way`, jobs, minutes"
  unfoldable pub plan_text : (entries bytes : ℕ) → List (Entry Condition) → (jobs minutes : ℕ) → List ℕ
  plan_text entries bytes l jobs minutes =
      line (ascii "plan") (decimal entries ∷ decimal bytes ∷ [])
      ++ (entries_text 0 l ++ line (ascii "way") (decimal jobs ∷ decimal minutes ∷ []))

-- "A stop prints one line only: `refused`, number, place."
unfoldable pub refused_text : (number place : ℕ) → List ℕ
refused_text number place = line (ascii "refused") (decimal number ∷ decimal place ∷ [])

-- ---- the longest lines

-- an entry's line, whose fields have at most 4, 16, 16, 3, 5 and 5 bytes, each with the byte that ends it: entry, both masks, job, parent, depth
abbrev pub entry_line : ℕ
entry_line = (4 + 1) + (16 + 1) + (16 + 1) + (3 + 1) + (5 + 1) + (5 + 1)

-- the lines around the entries: `plan` and two words of the machine; `way`, a word and 32 bits
abbrev pub other_lines : ℕ
other_lines = (4 + 1) + (20 + 1) + (20 + 1) + ((3 + 1) + (20 + 1) + (10 + 1))

-- a stop's line: `refused`, a byte and a word of the machine
abbrev pub refused_line : ℕ
refused_line = (7 + 1) + (3 + 1) + (20 + 1)
