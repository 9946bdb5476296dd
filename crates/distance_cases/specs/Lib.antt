pub mod DistanceCases
pub mod DistanceComputed
