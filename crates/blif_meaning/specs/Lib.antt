pub mod Statements
pub mod Texts
pub mod Reasons
