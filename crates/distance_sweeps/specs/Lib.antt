pub mod Sweeps
pub mod CountLaws
pub mod SweepLaws
