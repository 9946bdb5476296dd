-- definitions
pub mod Runs
pub mod Joint
