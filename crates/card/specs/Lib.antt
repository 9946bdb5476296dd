pub mod Card
pub mod CardLaws
pub mod Values
