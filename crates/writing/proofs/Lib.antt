pub mod Pins
pub mod Whole
