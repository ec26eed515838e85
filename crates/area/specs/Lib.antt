pub mod Layout
pub mod Net
pub mod Sum
pub mod Rules
pub mod Figures
