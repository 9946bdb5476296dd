-- `plan_recovery::recover` meets its contract: the table's own stops and the tree's first, then the list that the tree shows; and what is recovered keeps its
-- promises.
use Rattle.std.proofs.Common.{refl}
use Rattle.refusal.specs.CheckedLaws.{passed_on}
use Rattle.table.proofs.ReadLaws.{headed_sound, headed_refused}
use Rattle.tree_shows.specs.Shown.{sound_tree}
use Rattle.plan_recovery.specs.RecoveryLaws.{recovery_kept}
use Rattle.plan_recovery.specs.WritesBackLaws.{bad_back, sound_back}
use Rattle.plan_recovery.proofs.recover.Goals as goal

pub returns-in_err-header : goal.returns-in_err-header
returns-in_err-header c =
    recovery_kept _ (λ i. (c.type_inv.table i).fits) _ _ _ _
    (rw (passed_on _ _ c.from_residual.ensures refl) (bad_back _ _ _ _ _ _ (headed_refused (sound_tree _ _) c.in_err-header.ensures)))

pub returns : goal.returns
returns c =
    let t = headed_sound (sound_tree _ _) c.in_ok-header.ensures in
    recovery_kept _ (λ i. (c.type_inv.table i).fits) _ _ _ _ (sound_back _ _ _ _ t.0 t.1 _ _ (c.recover_under.ensures t.0 t.1))
