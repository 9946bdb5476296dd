-- definitions
pub mod Batch
pub mod Steps
-- laws
pub mod StepLaws
pub mod WalkLaws
