pub mod TeamCases
