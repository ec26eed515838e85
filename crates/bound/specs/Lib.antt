pub mod Sharp
pub mod Statements
pub mod Sheets
