pub mod MigrationCases
