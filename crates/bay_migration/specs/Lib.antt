pub mod MigrationWords
pub mod MigrationWordLaws
