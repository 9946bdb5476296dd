pub mod CardParts
pub mod CardPartLaws
