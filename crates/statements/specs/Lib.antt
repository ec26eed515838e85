pub mod Lines
pub mod Part
pub mod Fit
pub mod Statements
pub mod Walk
