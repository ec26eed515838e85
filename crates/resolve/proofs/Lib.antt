pub mod Lookup
pub mod Gates
