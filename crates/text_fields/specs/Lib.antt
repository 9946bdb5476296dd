pub mod Fields
pub mod Puts
pub mod PutLaws
pub mod DigitLaws
