pub mod Range
pub mod Exact
pub mod Product
pub mod Half
pub mod Convert
pub mod Laws
pub mod Fields
