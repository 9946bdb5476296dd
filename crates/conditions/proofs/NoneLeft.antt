-- The end of the search: nothing is left to look at.
-- Assumes nothing.
use Rattle.std.specs.Prelude.{◌≡◌, List, ℕ, None}
use Rattle.std.proofs.Common.{sym, ap, ◌∙◌}
use Rattle.conditions.specs.declared.Condition.{Condition}
use Rattle.conditions.specs.Search.{newest_weaker, Searches}
use Rattle.conditions.specs.SearchLaws.{newest_none, searches}

pub none_left : (conditions absences : List ℕ) (c : Condition) (n k : ℕ) → k ≡ 0
    → newest_weaker conditions absences k c ≡ newest_weaker conditions absences n c → Searches conditions absences n c None
none_left conditions absences c n k none e =
    searches conditions absences c n None
    (newest_none conditions absences c ∙ ap (λ (j : ℕ). newest_weaker conditions absences j c) (sym none) ∙ e)
