pub mod Columns
pub mod Table
pub mod Vertices
pub mod Walks
pub mod Candidates
