pub mod Book
pub mod Statement
