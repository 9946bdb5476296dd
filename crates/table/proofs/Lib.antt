pub mod OffsetLaws
pub mod PairLaws
pub mod ReadLaws
pub mod RoundTripLaws
