-- definitions
pub mod Tree
pub mod ReadTree
pub mod Tick
pub mod TickBytes
pub mod StatusNumbers
-- laws
pub mod ReadTreeLaws
pub mod TickLaws
pub mod TickBytesLaws
pub mod Cases
