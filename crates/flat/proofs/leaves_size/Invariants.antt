-- `flat::leaves_size` meets its contract. The loop's invariant: the leaves of the entries passed are counted.
use Rattle.std.proofs.Common.{◌≡◌, ℕ, ◌*◌, ◌≤◌, List, drop}
use Rattle.commands.specs.Commands.{JOB_LEAF_SIZE}
use Rattle.licences.specs.Licences.{owned_by}
use Rattle.flat.specs.TreeBytes.{tree_entries, leaves_size}
use Rattle.flat.proofs.leaves_size.Given as goal

abbrev pub invariant-loop-i : goal.invariant-loop-i
invariant-loop-i l =
    (l.size ≤ JOB_LEAF_SIZE * l.i)
    × ((conditions absences : List ℕ) → l.size ≡ leaves_size (owned_by l.owner) (drop 1 (tree_entries conditions absences l.actions l.i)))
