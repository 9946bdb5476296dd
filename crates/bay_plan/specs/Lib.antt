pub mod PlanWords
pub mod PlanWordLaws
