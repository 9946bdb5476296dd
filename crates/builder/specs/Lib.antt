-- definitions
pub mod Finish
pub mod Plan
pub mod Works
-- laws
pub mod FinishLaws
pub mod RowLaws
pub mod PlanLaws
pub mod WorksLaws
