pub mod Netlist
pub mod WellFormed
pub mod Exact
pub mod Figures
pub mod Live
pub mod Sum
pub mod Seen
pub mod Average
