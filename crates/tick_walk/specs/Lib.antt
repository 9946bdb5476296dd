-- definitions
pub mod Walk
-- laws
pub mod WalkLaws
