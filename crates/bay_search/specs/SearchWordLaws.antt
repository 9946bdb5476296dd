-- A search's promise, with its answer in words.
-- Assumes nothing.
use Rattle.std.specs.Prelude.{List, ℕ, length, Option}
use Rattle.refusal.specs.Checked.{accepted}
use Rattle.conditions.specs.declared.Condition.{Condition}
use Rattle.conditions.specs.Search.{Searches}
use Rattle.bay_words.specs.Words.{words, Answered}
use Rattle.bay_search.specs.SearchWords.{found_words, SearchAnswered}

pub search_answered : {listed absences : List ℕ} {c : Condition} {found : Option ℕ} {lent : List ℕ} {result : ℕ} → Searches listed absences (length listed) c found
    → Answered (words 3 found_words (accepted found)) lent result → SearchAnswered listed absences c lent result
search_answered p a = record { found = _; searches = p; answers = a }
