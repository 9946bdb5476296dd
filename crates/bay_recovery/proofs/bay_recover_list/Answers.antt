-- `bay_recovery::bay_recover_list` meets its contract.
use Rattle.bay_recovery.specs.RecoveryWordLaws.{recovery_answered}
use Rattle.bay_recovery.proofs.bay_recover_list.Goals as goal

pub returns : goal.returns
returns c = recovery_answered c.recover-listed.ensures c.list_words-told.ensures
