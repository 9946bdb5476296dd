-- definitions
pub mod BatchTick
-- laws
pub mod BatchTickLaws
