pub mod Loop
pub mod Placed
pub mod Search
pub mod Going
pub mod Via
pub mod Earliest
