pub mod TeamLaws
pub mod PromiseLaws
