pub mod Migration
pub mod Promise
pub mod MigrationLaws
pub mod PromiseLaws
