-- `plan_text::put_entries` meets its contract. The loop's invariant: the lines of the entries passed are put.
use Rattle.planning.specs.Columns.{entries_of}
use Rattle.text_fields.specs.Puts.{Put}
use Rattle.plan_text.specs.Text.{entries_text}
use Rattle.plan_text.proofs.put_entries.Given as goal

abbrev pub invariant-loop-i : goal.invariant-loop-i
invariant-loop-i l = Put l.initial.out l.out l.at l.next (entries_text l.paired 0 (entries_of l.conditions l.absences l.actions l.parents l.depths l.i))
