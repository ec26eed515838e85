pub mod Parts
pub mod Every
pub mod Sums
pub mod Counts
pub mod Joined
