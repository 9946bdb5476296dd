pub mod RecoveryWords
pub mod RecoveryWordLaws
