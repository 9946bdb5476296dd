-- `recovery_parts::copy_list` meets its contract. The loop's invariant: as many entries are copied as the loop has passed.
use Rattle.std.proofs.Common.{◌≡◌, []}
use Rattle.expander.specs.Expands.{columns}
use Rattle.recovery_parts.specs.Parts.{copied}
use Rattle.recovery_parts.proofs.copy_list.Given as goal

abbrev pub invariant-loop-i : goal.invariant-loop-i
invariant-loop-i l =
    columns l.conditions [] l.actions l.parents l.depths
    ≡ copied l.i (columns l.from_conditions [] l.from_actions l.from_parents l.from_depths) (columns l.initial.conditions [] l.initial.actions l.initial.parents l.initial.depths)
