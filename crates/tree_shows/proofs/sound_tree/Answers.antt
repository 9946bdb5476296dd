-- `tree_shows::sound_tree` meets its contract: the table first, then the tree.
use Rattle.std.proofs.Common.{sym, ap, ◌∙◌}
use Rattle.refusal.specs.Checked.{accepted}
use Rattle.refusal.specs.CheckedLaws.{passed_on}
use Rattle.reading.specs.Reading.{state}
use Rattle.table.specs.declared.Header.{Header}
use Rattle.table.specs.Read.{read_table, headed}
use Rattle.table.proofs.ReadLaws.{headed_sound, headed_refused}
use Rattle.tree.specs.TickBytes.{tick_checked, answered}
use Rattle.tree_shows.specs.PartLaws.{table_bad, tree_bad, tree_good}
use Rattle.tree_shows.proofs.sound_tree.Goals as goal

pub returns-in_err-header : goal.returns-in_err-header
returns-in_err-header c = passed_on _ _ c.from_residual.ensures (ap headed (table_bad _ _ _ _ (headed_refused (read_table _) c.in_err-header.ensures)))

pub returns-in_err-tick_checked : goal.returns-in_err-tick_checked
returns-in_err-tick_checked c =
    let t = headed_sound (read_table _) c.in_ok-header.ensures in
    let bad = c.in_err-tick_checked.ensures.answer ∙ ap (λ (h : Header). answered (tick_checked h.facts h.jobs c.args.tree.now 0 (state 0))) (sym t.2) in
    passed_on _ _ c.from_residual-in_err-tick_checked.ensures (ap headed (tree_bad _ _ t.0 t.1 _ _ bad))

pub returns : goal.returns
returns c =
    let t = headed_sound (read_table _) c.in_ok-header.ensures in
    let good = c.in_ok-tick_checked.ensures.answer ∙ ap (λ (h : Header). answered (tick_checked h.facts h.jobs c.args.tree.now 0 (state 0))) (sym t.2) in
    ap accepted (sym t.2) ∙ ap headed (tree_good _ _ t.0 t.1 _ good)
