pub mod Exact
pub mod Fill
pub mod Lanes
