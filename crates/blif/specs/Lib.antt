pub mod Reading
pub mod Resolved
pub mod Stages
pub mod Lent
