pub mod Text
pub mod Writes
pub mod WriteLaws
pub mod TextLaws
