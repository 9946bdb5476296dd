-- `tick_walk::tick_root` meets its contract: a row of one child answers as that child does.
use Rattle.tick_walk.specs.WalkLaws.{row_one}
use mathlib.Core.Path.{◌∙◌}
use Rattle.tick_walk.proofs.tick_root.Goals as goal

pub returns : goal.returns
returns c = c.tick_row.ensures ∙ row_one _ _ _ _ _
