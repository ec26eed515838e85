pub mod Run
pub mod Statements
pub mod Holds
pub mod Texts
pub mod Order
pub mod Reasons
