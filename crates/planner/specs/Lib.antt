pub mod Plan
pub mod Way
pub mod Promise
pub mod PlanLaws
pub mod WayLaws
pub mod PromiseLaws
