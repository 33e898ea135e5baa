pub mod Parsing
pub mod Building
