pub mod Words
pub mod EachPin
pub mod Net
pub mod Sum
