pub mod Sharing
pub mod Supposed
