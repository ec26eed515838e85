pub mod WeightedSum
pub mod BlockWords
pub mod Patterns
pub mod Runs
