pub mod Decimals
pub mod Statements
