pub mod TickWords
pub mod TickWordLaws
