pub mod BatchWords
pub mod BatchWordLaws
