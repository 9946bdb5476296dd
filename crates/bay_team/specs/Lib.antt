pub mod TeamWords
pub mod TeamWordLaws
