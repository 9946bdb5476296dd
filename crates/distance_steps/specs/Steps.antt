-- Where the actions lead from a state, by a row with a label for each state, and the row that the sweeps begin with: document 02, W13. A label is a
-- distance as far as it was found yet.
-- Definitions only.
use Rattle.std.specs.Prelude.{◌≡◌, List, ℕ, ◌≤◌, ◌<◌, T, length, get_or, if◌then◌else◌}
use Rattle.conditions.specs.declared.Action.{Action}
use Rattle.conditions.specs.declared.Condition.{Condition}
use Rattle.conditions.specs.Condition.{satisfied, needed, applied}
use Rattle.planning.specs.Domain.{Domain}
use Rattle.planning.specs.Facts.{Actions, unit_domain}
use Rattle.expander.specs.Expands.{no_action}
use Rattle.distance_steps.specs.Distance.{no_distance}

-- the label of a state
abbrev pub label_of : List ℕ → ℕ → ℕ
label_of row s = get_or row s 0

-- the goal's states have the label 0, and no other has one
abbrev pub first_label : Condition → ℕ → ℕ
first_label goal s = if satisfied goal s then 0 else no_distance

-- the action leads out of none of the n states
abbrev pub Stays : ℕ → Action → Type 0
Stays n a = (s : ℕ) → s < n → T (satisfied (needed a) s) → applied a s < n

-- There are n states, of which 15 facts give the most, and none of the actions leads out of them.
pub record ActionsFit (actions : List Action) (n : ℕ) : Type 0 where
  pub few_actions : length actions ≤ 128
  pub few_states : n ≤ 32768
  pub stays : (a : ℕ) → a < length actions → Stays n (get_or actions a no_action)

-- where an action leads from a state: to the label of the state that it leaves, or nowhere if it is not applicable
abbrev pub label_after : Action → List ℕ → ℕ → ℕ
label_after a row s = if satisfied (needed a) s then label_of row (applied a s) else no_distance

-- the search for the least label came to action a: the least so far
pub record LeastBelow (A : Actions) (row : List ℕ) (s a best : ℕ) : Type 0 where
  pub word : best ≤ no_distance
  pub reached : best < no_distance → (k : ℕ) × (k < A.count) × (label_after (A.action k) row s ≡ best)
  pub least : (k : ℕ) → k < a → best ≤ label_after (A.action k) row s

module _ (A : Actions) (goal : Condition) where
  abbrev pub D : Domain ℕ Condition ℕ
  D = unit_domain A goal

  -- r is the least label that an action leads to from the state s
  pub record LeastAhead (row : List ℕ) (s r : ℕ) : Type 0 where
    pub reached : r < no_distance → (a : ℕ) × T (D.applicable a s) × (label_of row (D.result a s) ≡ r)
    pub least : (a : ℕ) → T (D.applicable a s) → r ≤ label_of row (D.result a s)

  -- no action leads to less than `floor`
  abbrev pub NoneBelow : List ℕ → ℕ → ℕ → Type 0
  NoneBelow row s floor = (a : ℕ) → T (D.applicable a s) → floor ≤ label_of row (D.result a s)
