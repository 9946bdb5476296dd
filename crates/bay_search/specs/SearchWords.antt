-- What the search among listed conditions gives, in the words of include/bay.h.
-- Definitions only.
use Rattle.std.specs.Prelude.{List, [], ◌∷◌, ℕ, length, Option, Some, None}
use Rattle.refusal.specs.Checked.{accepted}
use Rattle.conditions.specs.declared.Condition.{Condition}
use Rattle.conditions.specs.Search.{Searches}
use Rattle.bay_words.specs.Words.{words, Answered}

-- whether there is one, and its entry
abbrev pub found_words : Option ℕ → List ℕ
found_words None = 0 ∷ 0 ∷ []
found_words (Some entry) = 1 ∷ entry ∷ []

-- what a search of a whole list promises, with its answer; past the end of the second masks nothing is to be absent
pub record SearchAnswered (listed absences : List ℕ) (c : Condition) (lent : List ℕ) (result : ℕ) : Type 0 where
  pub found : Option ℕ
  pub searches : Searches listed absences (length listed) c found
  pub answers : Answered (words 3 found_words (accepted found)) lent result
