-- The loop's invariant: the jobs of the rows before this one are stored.
use Rattle.table_writer.specs.Write.{columns_in}
use Rattle.table_writer.specs.WriteLaws.{StoredTo}
use Rattle.table_writer.proofs.put_jobs.Given as goal

abbrev pub invariant-loop-i : goal.invariant-loop-i
invariant-loop-i l = StoredTo (columns_in l.columns) l.initial.out l.out l.i l.at
