-- definitions
pub mod Parts
-- laws
pub mod PartsLaws
