-- `tick::tick_checked` meets its contract: the reading comes before the tree; that a settled answer stands for every completion follows
-- from the definition.
use Rattle.std.proofs.Common.{◌∙◌}
use Rattle.refusal.specs.CheckedLaws.{passed_on}
use Rattle.tick.specs.AnswersLaws.{tick_refused, tick_passed, answers_under}
use Rattle.tick.proofs.tick_checked.Goals as goal

pub returns-in_err-reading : goal.returns-in_err-reading
returns-in_err-reading c =
    answers_under _ _ _ c.args.header _ (passed_on _ _ c.from_residual.ensures (tick_refused _ _ _ _ _ _ _ c.in_err-reading.ensures))

pub returns : goal.returns
returns c = answers_under _ _ _ c.args.header _ (c.tick_tree.ensures ∙ tick_passed _ _ _ _ _ _ c.in_ok-reading.ensures)
