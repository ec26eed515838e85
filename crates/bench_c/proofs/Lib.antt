pub mod Answered
pub mod Zero
pub mod Compared
pub mod Shared
