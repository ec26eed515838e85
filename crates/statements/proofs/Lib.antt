pub mod Lines
pub mod Fitting
pub mod Faults
pub mod Ends
pub mod Walking
