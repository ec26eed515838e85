pub mod Fresh
pub mod Statements
