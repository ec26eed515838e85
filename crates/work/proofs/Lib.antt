pub mod Frame
pub mod Pattern
pub mod Sound
pub mod Loops
