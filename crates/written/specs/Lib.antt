pub mod Image
pub mod Call
pub mod Statements
pub mod Sheets
