pub mod DistanceWords
pub mod DistanceWordLaws
