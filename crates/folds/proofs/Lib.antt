pub mod Fold
pub mod Last
