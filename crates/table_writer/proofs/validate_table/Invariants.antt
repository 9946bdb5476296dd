-- The loop's invariant: the rows before this one passed.
use Rattle.table_writer.specs.Write.{columns_in}
use Rattle.table_writer.specs.WriteLaws.{PassedTo}
use Rattle.table_writer.proofs.validate_table.Given as goal

abbrev pub invariant-loop-i : goal.invariant-loop-i
invariant-loop-i l = PassedTo (columns_in l.columns) l.facts l.goal l.i l.at
