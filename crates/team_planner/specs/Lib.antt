-- definitions
pub mod Team
pub mod Promise

-- laws
