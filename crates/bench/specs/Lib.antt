pub mod Answers
pub mod Loaded
