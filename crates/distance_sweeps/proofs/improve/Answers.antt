-- `distance_sweeps::improve` meets its contract.
use Rattle.std.proofs.Common.{rules, ℕ, suc, ◌<◌, ◌≤◌, List, length, arith}
use Rattle.conditions.specs.declared.Action.{Action}
use Rattle.conditions.specs.declared.Condition.{Condition}
use Rattle.expander.specs.Expands.{actions_in}
use Rattle.distance_steps.specs.Distance.{no_distance}
use Rattle.distance_steps.specs.Steps.{label_of, ActionsFit}
use Rattle.distance_steps.specs.AheadLaws.{fit_stay}
use Rattle.distance_sweeps.specs.Sweeps.{Level, Looking}
use Rattle.distance_sweeps.specs.SweepLaws.{final_kept, ahead_kept, ahead_taken}
use Rattle.distance_sweeps.proofs.improve.Goals as goal

-- what is known of the state, for a goal and a row of this level
looking : {actions : List Action} {row : List ℕ} {s done : ℕ} → ActionsFit actions (length row) → s < length row → done < length row
    → ((k : ℕ) → label_of row k ≤ no_distance) → (goal : Condition) → Level (actions_in actions) goal done row
    → Looking (actions_in actions) goal done row s
looking fit inside early word goal L =
    record { level = L; inside = inside; early = early; few = fit.few_states; word = word; stays = fit_stay fit goal }

pub returns-then-label-done : goal.returns-then-label-done
returns-then-label-done c =
    let A = actions_in c.args.actions.now in
    let p = c.requires in
    λ goal L. final_kept A goal _ _ _ (looking p.0 p.1 p.2 (λ k. search rules) goal L) (omega (arith, c.if-label-done.true))

pub returns-then-best-label : goal.returns-then-best-label
returns-then-best-label c =
    let A = actions_in c.args.actions.now in
    let p = c.requires in
    let high : suc c.args.done < label_of c.args.row.now c.args.s = omega (arith, c.if-label-done.false) in
    λ goal L. ahead_taken A goal _ _ _ (looking p.0 p.1 p.2 (λ k. search rules) goal L) high _ (c.least_ahead-best.ensures goal)
    (omega (arith, c.if-best-label.true)) _ (omega arith)

pub returns : goal.returns
returns c =
    let A = actions_in c.args.actions.now in
    let p = c.requires in
    let high : suc c.args.done < label_of c.args.row.now c.args.s = omega (arith, c.if-label-done.false) in
    λ goal L. ahead_kept A goal _ _ _ (looking p.0 p.1 p.2 (λ k. search rules) goal L) high _ (c.least_ahead-best.ensures goal)
    (omega (arith, c.if-best-label.false))
