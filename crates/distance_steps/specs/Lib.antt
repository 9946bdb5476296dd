pub mod Distance
pub mod Steps
pub mod AheadLaws
