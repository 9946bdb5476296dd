pub mod Minutes
pub mod NearestMinute
