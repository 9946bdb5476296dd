pub mod Program
pub mod Files
pub mod Shows
pub mod ProgramLaws
pub mod FrontLaws
