pub mod Standing
pub mod Images
