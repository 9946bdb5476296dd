-- The search for a listed part of a condition: document 02, W6.
-- Definitions only.
use Rattle.std.specs.Prelude.{◌≡◌, List, ◌↔◌, true, ℕ, zero, suc, ◌≤◌, ◌<◌, get_or, T, if◌then◌else◌, None, Option, Some}
use Rattle.masks.specs.Sets.{intersects}
use Rattle.conditions.specs.declared.Condition.{Condition}
use Rattle.conditions.specs.Condition.{weaker, condition_at}

-- among the first n conditions of two columns, "from the newest entry down to entry 0", "the entry it found, the newest that is a part"
unfoldable pub newest_weaker : List ℕ → List ℕ → ℕ → Condition → (Option ℕ)
newest_weaker conditions absences zero c = None
newest_weaker conditions absences (suc k) c =
    if weaker (condition_at conditions absences k) c then Some k else newest_weaker conditions absences k c

-- each of the masks from one place up to another has a fact of `others`
abbrev pub Sharing : List ℕ → (others from to : ℕ) → Type 0
Sharing masks others from to = (i : ℕ) → from ≤ i → i < to → intersects (get_or masks i 0) others ≡ true

-- ---- what an answer says

-- The entry is one of the first n and a part, and no newer one is.
pub record Newest (conditions absences : List ℕ) (n : ℕ) (c : Condition) (entry : ℕ) : Type 0 where
  pub is_listed : entry < n
  pub is_part : T (weaker (condition_at conditions absences entry) c)
  pub no_newer : (i : ℕ) → entry < i → i < n → T (weaker (condition_at conditions absences i) c) → ⊥

-- "It answers none exactly where it did before": where none of them is a part.
pub record Searches (conditions absences : List ℕ) (n : ℕ) (c : Condition) (found : (Option ℕ)) : Type 0 where
  pub answer : found ≡ newest_weaker conditions absences n c
  pub newest : (entry : ℕ) → found ≡ Some entry → Newest conditions absences n c entry
  pub nowhere : (found ≡ None) ↔ ((i : ℕ) → i < n → T (weaker (condition_at conditions absences i) c) → ⊥)
