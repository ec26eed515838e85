pub mod Bytes
pub mod Passes
