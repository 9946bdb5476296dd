-- `builder::fit_tree` meets its contract: the tree is written where it fits.
use Rattle.std.proofs.Common.{◌≡◌, ◌-◌, ◌*◌, ℕ, List, [], ◌∷◌, length, drop, sym, ap, arith}
use Rattle.std.proofs.Math.Path.{refl}
use Rattle.base.specs.Lists.{length_prefix}
use Rattle.refusal.specs.Checked.{refused}
use Rattle.commands.specs.Commands.{JOB_LEAF_SIZE}
use Rattle.conditions.specs.declared.Condition.{Condition}
use Rattle.planning.specs.Expansion.{Entry}
use Rattle.planning.specs.Columns.{entry_at}
use Rattle.flat.specs.declared.Entries.{Entries}
use Rattle.flat.specs.TreeBytes.{everyone, tree_bytes, entries_in, leaves_size}
use Rattle.flat.specs.TreeBytesLaws.{leaves_all}
use Rattle.builder.specs.PlanLaws.{tree_short, tree_fits, sized}
use Rattle.builder.proofs.fit_tree.Goals as goal

size : (lent : Entries) (n : ℕ) → length (entries_in lent n) ≡ n
size lent n = length_prefix (entry_at lent.conditions.now lent.absences.now lent.actions.now [] []) n

-- every leaf is that of a job
leaves : (l : List (Entry Condition)) (n : ℕ) → length l ≡ n → JOB_LEAF_SIZE * (n - 1) ≡ leaves_size everyone (drop 1 l)
leaves [] n e = rw (← e)
leaves (x ∷ l) n e = omega (arith, leaves_all l, e)

pub tree_size-bytes-requires : goal.tree_size-bytes-requires
tree_size-bytes-requires c = let p = c.requires in (p.0, p.1, omega (arith, p.1))

pub returns-then-tree-bytes : goal.returns-then-tree-bytes
returns-then-tree-bytes c =
    let l = entries_in c.args.entries c.args.n in
    let is = size c.args.entries c.args.n in
    let bytes = c.tree_size-bytes.ensures everyone l is (leaves l c.args.n is) in
    rw c.at.ensures (tree_short _ _ _ _ _ _ (omega (arith, bytes)) refl (ap (refused 12) (sym is)))

pub write_tree-requires : goal.write_tree-requires
write_tree-requires c =
    let p = c.requires in
    let l = entries_in c.args.entries c.args.n in
    let is = size c.args.entries c.args.n in
    let bytes = c.tree_size-bytes.ensures everyone l is (leaves l c.args.n is) in
    (p.0, p.1, p.3, omega (arith, bytes))

pub returns : goal.returns
returns c =
    let l = entries_in c.args.entries c.args.n in
    let is = size c.args.entries c.args.n in
    let bytes = c.tree_size-bytes.ensures everyone l is (leaves l c.args.n is) in
    tree_fits c.args.paired l _ c.args.tree.now _ _ (omega (arith, bytes)) c.write_tree.ensures (sized c.args.paired l is bytes)
