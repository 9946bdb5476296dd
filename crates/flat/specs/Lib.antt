-- definitions
pub mod TreeBytes
pub mod FlatTree
pub mod FlatTick
-- laws
pub mod TreeBytesLaws
pub mod FlatTreeLaws
pub mod ReadBackLaws
pub mod FlatTickLaws
