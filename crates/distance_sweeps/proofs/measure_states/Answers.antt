-- `distance_sweeps::measure_states` meets its contract. The loop's invariant: the row is of the level of the sweeps done, and where the last one changed
-- nothing no action leads nearer. The measure is the sweeps that the number of states leaves.
use Rattle.std.proofs.Common.{◌≡◌, ℕ, ◌∙◌, ap, List, length, arith, rules, true≢false}
use Rattle.base.specs.Lists.{get_d_prefix}
use Rattle.conditions.specs.Condition.{plain}
use Rattle.expander.specs.Expands.{actions_in}
use Rattle.distance_steps.specs.Steps.{label_of, first_label}
use Rattle.distance_steps.specs.AheadLaws.{fit_stay}
use Rattle.distance_sweeps.specs.SweepLaws.{level_first, level_last}
use Rattle.distance_sweeps.proofs.measure_states.Goals as goal

pub loop-changed-init : goal.loop-changed-init
loop-changed-init c =
    let g = plain c.args.goal in
    let size : length c.label_goal.new.row ≡ length c.args.row.now = c.label_goal.auto.row in (
      omega arith,
      λ e. omega (arith, size, c.requires.1),
      (λ s. search rules),
      level_first (actions_in c.args.actions.now) g _
          (λ s h. ap (λ (l : List ℕ). label_of l s) c.label_goal.ensures ∙ get_d_prefix (first_label g) (length c.args.row.now) s 0 (omega (arith, size))),
      (λ e. absurd (true≢false e)),
    )

pub returns : goal.returns
returns c =
    let g = plain c.args.goal in
    let A = actions_in c.args.actions.now in
    let i = c.loop-changed.invariant in
    let size : length c.loop-changed.row ≡ length c.args.row.now = c.loop-changed.auto.row ∙ c.label_goal.auto.row in
    let F = c.requires.0 in
    record {
      sized = size;
      each = level_last A g c.loop-changed.done c.loop-changed.row i.3 (i.4 c.loop-changed-test.false) (omega (arith, size, F.few_states)) i.2 (rw size (fit_stay F g));
    }
