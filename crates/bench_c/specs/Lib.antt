pub mod Codes
pub mod Comparing
