pub mod Keys
pub mod Runs
pub mod Collecting
pub mod Heading
