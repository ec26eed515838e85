pub mod Past
pub mod Opened
pub mod RoundTrip
pub mod Holds
pub mod Turned
pub mod Sheets
