pub mod Nine
pub mod Within
pub mod Alike
pub mod Sheets
