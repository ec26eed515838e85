pub mod Model
pub mod Counts
pub mod Tables
