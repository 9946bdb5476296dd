-- `flat::put_entries` meets its contract. The loop's invariant: the entries passed are put, one after the other.
use Rattle.std.proofs.Common.{drop}
use Rattle.licences.specs.Licences.{owned_by}
use Rattle.flat.specs.TreeBytes.{later_entries, entries_in, Puts}
use Rattle.flat.proofs.put_entries.Given as goal

abbrev pub invariant-loop-i : goal.invariant-loop-i
invariant-loop-i l = Puts (later_entries (owned_by l.owner) l.paired (drop 1 (entries_in l.entries l.i))) l.first l.initial.tree l.tree l.at
