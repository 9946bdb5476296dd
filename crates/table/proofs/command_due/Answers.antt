-- `table::command_due` meets its contract: each way through the code is a way through the definition.
use Rattle.std.proofs.Common.{arith}
use Rattle.std.proofs.lemmas.Grind.{common_steps}
use Rattle.table.proofs.ReadLaws.{due_missing, due_unknown, due_cut, due_cut_other, due_whole, due_other}
use Rattle.table.proofs.command_due.Goals as goal

pub returns-in-Missing : goal.returns-in-Missing
returns-in-Missing c = grind (arith, common_steps, due_missing)

pub returns-in-Unknown : goal.returns-in-Unknown
returns-in-Unknown c = grind (arith, common_steps, due_unknown)

pub returns-then-is_allowed : goal.returns-then-is_allowed
returns-then-is_allowed c = grind (arith, common_steps, due_cut)

pub returns-else-is_allowed : goal.returns-else-is_allowed
returns-else-is_allowed c = grind (arith, common_steps, due_cut_other)

pub returns-then-is_allowed-2 : goal.returns-then-is_allowed-2
returns-then-is_allowed-2 c = grind (arith, common_steps, due_whole)

pub returns-else-is_allowed-2 : goal.returns-else-is_allowed-2
returns-else-is_allowed-2 c = grind (arith, common_steps, due_other)
