pub mod Count
pub mod Counted
pub mod Shared
