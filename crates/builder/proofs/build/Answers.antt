-- `builder::build` meets its contract: how the list ended is what the definition answers by.
use Rattle.std.proofs.Common.{◌≡◌, ap}
use Rattle.std.proofs.Math.Path.{refl}
use Rattle.refusal.specs.Checked.{answer_of}
use Rattle.refusal.specs.CheckedLaws.{passed_on}
use Rattle.table.specs.Read.{read_table}
use Rattle.table.proofs.ReadLaws.{headed_sound}
use Rattle.builder.specs.Plan.{pairs, size_of}
use Rattle.builder.specs.RowLaws.{header_paired}
use Rattle.builder.specs.PlanLaws.{writes_list, writes_built}
use Rattle.builder.proofs.build.Goals as goal

pub fit_tree-requires : goal.fit_tree-requires
fit_tree-requires c =
    let t = headed_sound (read_table c.args.table.now) c.requires in
    let S = (c.list_goal.ensures t.0 t.1).list_stands _ (ap answer_of c.in_ok-n.was) in
    (S.some, S.few, S.in_conditions, S.in_actions)

pub returns-in_err-n : goal.returns-in_err-n
returns-in_err-n c =
    λ t e. writes_list (c.list_goal.ensures t e) (size_of (pairs t)) c.args.tree.now _ _ _ (ap answer_of c.in_err-n.was) (passed_on _ _ c.from_residual.ensures refl)

pub returns : goal.returns
returns c =
    λ t e.
    let paired = header_paired c.args.table.now (λ i. (c.type_inv.table i).fits) c.args.header c.requires t e in
    writes_built (c.list_goal.ensures t e) c.args.tree.now _ _ (ap answer_of c.in_ok-n.was) _ (rw paired at c.fit_tree.ensures)
