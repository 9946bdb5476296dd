pub mod Computed
pub mod PairsComputed
