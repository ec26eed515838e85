pub mod Deciding
pub mod Opened
