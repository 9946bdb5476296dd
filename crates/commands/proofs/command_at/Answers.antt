-- `commands::command_at` meets its contract: each way through the code is a way through the definition.
use Rattle.std.proofs.Common.{sym, ◌∙◌, arith}
use Rattle.commands.specs.CommandLaws.{at_missing, at_unknown, at_whole, at_cut}
use Rattle.commands.proofs.command_at.Goals as goal

pub returns-then-s-at : goal.returns-then-s-at
returns-then-s-at c = sym (at_missing _ _ c.if-s-at.true)

pub returns-in-None : goal.returns-in-None
returns-in-None c = sym (at_unknown _ _ c.if-s-at.false (sym c.width_of.ensures ∙ c.in-None.is))

pub returns-then-w-rest : goal.returns-then-w-rest
returns-then-w-rest c = sym (at_whole _ _ c.if-s-at.false _ (sym c.width_of.ensures ∙ c.in-Some.is) (omega arith))

pub returns-else-w-rest : goal.returns-else-w-rest
returns-else-w-rest c = sym (at_cut _ _ c.if-s-at.false _ (sym c.width_of.ensures ∙ c.in-Some.is) (omega arith))
