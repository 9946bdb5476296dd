-- definitions
pub mod Recovery
pub mod Promise
pub mod Made
-- laws
pub mod RecoveryLaws
pub mod MadeLaws
pub mod WritesBackLaws
