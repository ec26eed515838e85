pub mod Length
pub mod Trailer
pub mod Passes
pub mod Netlist
pub mod Whole
pub mod Pins
