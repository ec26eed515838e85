pub mod Judgements
pub mod Sheets
