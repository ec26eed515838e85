pub mod Gates
pub mod Failing
