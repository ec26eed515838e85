pub mod Sets
pub mod Branches
