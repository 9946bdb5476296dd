pub mod SearchWords
pub mod SearchWordLaws
