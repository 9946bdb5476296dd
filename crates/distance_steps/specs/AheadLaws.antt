-- Where the actions lead from a state, and the least of it.
-- Assumes nothing.
use Rattle.std.specs.Prelude.{◌≡◌, true, false, List, ℕ, ◌<◌, T, ltb, length}
use Rattle.std.proofs.Common.{sym, ◌∙◌, arith, ltb→lt}
use Rattle.base.specs.Bools.{and_left, and_right, holds}
use Rattle.reading.specs.Reading.{state}
use Rattle.conditions.specs.declared.Action.{Action}
use Rattle.conditions.specs.declared.Condition.{Condition}
use Rattle.conditions.specs.Condition.{satisfied, needed}
use Rattle.conditions.specs.OnReading.{applicable, finished}
use Rattle.conditions.specs.OnReadingLaws.{applicable_state, finished_state}
use Rattle.expander.specs.Expands.{actions_in}
use Rattle.distance_steps.specs.Distance.{no_distance}
use Rattle.distance_steps.specs.Steps.{label_of, Stays, ActionsFit, label_after, D}

-- ---- one action

module _ (a : Action) (row : List ℕ) (s : ℕ) where
  can_act : true ≡ applicable a (state s) → satisfied (needed a) s ≡ true
  can_act e = sym (e ∙ applicable_state a s)

  -- where it is applicable, it leaves a state of the row
  pub leaves_inside : true ≡ applicable a (state s) → Stays (length row) a → s < length row → (finished a (state s)).held < length row
  leaves_inside e stays h = rw (finished_state a s) (stays s h (holds _ (can_act e)))

  pub label_applicable : true ≡ applicable a (state s) → label_of row (finished a (state s)).held ≡ label_after a row s
  label_applicable e = rw (finished_state a s, can_act e)

  pub label_inapplicable : false ≡ applicable a (state s) → no_distance ≡ label_after a row s
  label_inapplicable e = rw (← applicable_state a s, ← e)

-- ---- actions that fit

module _ {actions : List Action} {n : ℕ} (F : ActionsFit actions n) where
  pub fit_count : (actions_in actions).count ≡ length actions
  fit_count = omega (arith, F.few_actions)

  pub fit_stay : (goal : Condition) (a s : ℕ) → s < n → T ((D (actions_in actions) goal).applicable a s) → (D (actions_in actions) goal).result a s < n
  fit_stay goal a s h t =
      let A = actions_in actions in
      let inside = ltb→lt a A.count (and_left (ltb a A.count) _ t) in
      F.stays a (omega (arith, fit_count)) s h (and_right (ltb a A.count) _ t)
