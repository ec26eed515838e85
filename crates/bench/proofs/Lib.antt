pub mod Opening
pub mod Answered
