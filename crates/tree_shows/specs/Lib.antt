-- definitions
pub mod Shown
-- laws
pub mod ShownLaws
pub mod PartLaws
