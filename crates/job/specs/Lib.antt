pub mod Job
pub mod Validation
