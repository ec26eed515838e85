pub mod Facts
pub mod Parts
pub mod Pins
pub mod Sound
