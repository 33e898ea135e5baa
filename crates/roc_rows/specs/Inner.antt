-- How stores are kept, and laws that the types need: no contract that a caller reads needs them
pub mod Cells
pub mod Writes
pub mod Kept
pub mod Counted
