pub mod Fold
pub mod Laws
pub mod Pins
pub mod Split
pub mod Spread
pub mod Step
pub mod Under
pub mod Word
