pub mod Number
pub mod Flip
pub mod Statements
