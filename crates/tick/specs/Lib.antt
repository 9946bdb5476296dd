-- definitions
pub mod Answers
-- laws
pub mod AnswersLaws
