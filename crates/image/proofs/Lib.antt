pub mod Passed
pub mod Flips
pub mod Middle
pub mod Numbers
pub mod Right
pub mod Words
pub mod Sound
pub mod Netlist
