pub mod Book
pub mod Call
