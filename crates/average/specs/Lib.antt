pub mod WeightedSum
pub mod Blocks
pub mod Walked
