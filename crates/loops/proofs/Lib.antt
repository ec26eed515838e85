pub mod Marks
pub mod Tracing
pub mod First
