pub mod Columns
pub mod Write
pub mod WriteLaws
