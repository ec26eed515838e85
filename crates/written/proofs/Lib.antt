pub mod Laws
pub mod Sheets
