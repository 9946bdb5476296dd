pub mod FactMap
pub mod Carry
pub mod CarryLaws
pub mod FactMapLaws
