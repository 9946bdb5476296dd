pub mod Measure
pub mod AgreeLaws
pub mod MeasureLaws
pub mod TogetherLaws
