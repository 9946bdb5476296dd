pub mod Condition
pub mod Search
pub mod OnReading
pub mod ConditionLaws
pub mod SearchLaws
pub mod OnReadingLaws
