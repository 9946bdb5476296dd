pub mod CardWords
pub mod CardWordLaws
