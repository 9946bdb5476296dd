-- The loop's invariant: the first row from here on that cannot be written is the first of all.
use Rattle.std.proofs.Common.{◌≡◌}
use Rattle.table_writer.specs.Columns.{first_unwritable}
use Rattle.table_writer.specs.Write.{columns_in}
use Rattle.table_writer.specs.WriteLaws.{unwritable_left}
use Rattle.table_writer.proofs.columns.Columns.first_unwritable.Given as goal

abbrev pub invariant-loop-i : goal.invariant-loop-i
invariant-loop-i l = unwritable_left l.self.commands.now l.self.absent.now l.i ≡ first_unwritable (columns_in l.self)
