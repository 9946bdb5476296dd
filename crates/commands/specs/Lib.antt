pub mod Commands
pub mod CommandLaws
