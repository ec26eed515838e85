pub mod Statements
pub mod Sheets
