pub mod Judgements
pub mod Calls
pub mod Sheets
