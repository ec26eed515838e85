pub mod Image
pub mod Refusals
pub mod Loading
pub mod Netlist
