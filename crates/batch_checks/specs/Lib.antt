-- definitions
pub mod Checks
-- laws
pub mod CheckLaws
