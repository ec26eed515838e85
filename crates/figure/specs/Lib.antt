pub mod Figure
pub mod Steps
