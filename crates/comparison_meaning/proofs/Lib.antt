pub mod Order
pub mod Errors
pub mod Verdicts
pub mod Answers
pub mod Higher
pub mod Swapped
pub mod Examples
