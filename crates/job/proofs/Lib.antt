pub mod JobLaws
pub mod ValidationLaws
