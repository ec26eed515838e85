pub mod Laws
pub mod Units
pub mod Same
pub mod Worked
pub mod Supposed
pub mod Next
pub mod Settled
