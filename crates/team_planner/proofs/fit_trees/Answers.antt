-- `team_planner::fit_trees` meets its contract: both trees are measured, then both are written where both fit.
use Rattle.std.proofs.Common.{◌≡◌, ℕ, [], length, sym, ap, arith}
use Rattle.base.specs.Lists.{length_prefix}
use Rattle.refusal.specs.Checked.{refused}
use Rattle.licences.specs.declared.Fitter.TheVariants.{First, Second}
use Rattle.planning.specs.Columns.{entry_at}
use Rattle.flat.specs.declared.Entries.{Entries}
use Rattle.flat.specs.TreeBytes.{entries_in}
use Rattle.team_planner.specs.Team.{of_each}
use Rattle.team_planner.proofs.TeamLaws.{team_sized, team_short, team_fits}
use Rattle.team_planner.proofs.fit_trees.Goals as goal

count : (lent : Entries) (n : ℕ) → length (entries_in lent n) ≡ n
count lent n = length_prefix (entry_at lent.conditions.now lent.absences.now lent.actions.now [] []) n

pub returns-then-first-first_bytes : goal.returns-then-first-first_bytes
returns-then-first-first_bytes c =
    let a = c.args in
    let small = c.size_for-first_bytes.ensures a.entries.conditions.now a.entries.absences.now in
    rw c.at.ensures (team_short a.licences.now a.paired (entries_in a.entries a.n) (of_each a.first.now a.second.now) _ First (omega (arith, small))
    (ap (refused 12) (sym (count a.entries a.n))))

pub returns-then-second-second_bytes : goal.returns-then-second-second_bytes
returns-then-second-second_bytes c =
    let a = c.args in
    let small = c.size_for-second_bytes.ensures a.entries.conditions.now a.entries.absences.now in
    rw c.at-then-second-second_bytes.ensures (team_short a.licences.now a.paired (entries_in a.entries a.n) (of_each a.first.now a.second.now) _ Second (omega (arith, small))
    (ap (refused 12) (sym (count a.entries a.n))))

pub write_tree-requires : goal.write_tree-requires
write_tree-requires c =
    let p = c.requires in
    (p.0, p.1, p.2, omega (arith, c.size_for-first_bytes.ensures c.args.entries.conditions.now c.args.entries.absences.now))

pub write_tree-requires-2 : goal.write_tree-requires-2
write_tree-requires-2 c =
    let p = c.requires in
    (p.0, p.1, p.2, omega (arith, c.size_for-second_bytes.ensures c.args.entries.conditions.now c.args.entries.absences.now))

pub returns : goal.returns
returns c =
    let a = c.args in
    let first = c.size_for-first_bytes.ensures a.entries.conditions.now a.entries.absences.now in
    let second = c.size_for-second_bytes.ensures a.entries.conditions.now a.entries.absences.now in
    team_fits a.licences.now a.paired (entries_in a.entries a.n) (of_each a.first.now a.second.now) _ _ _ (omega (arith, first)) (omega (arith, second))
    (team_sized a.licences.now a.paired (entries_in a.entries a.n) (count a.entries a.n) first second) c.write_tree.ensures c.write_tree-2.ensures
