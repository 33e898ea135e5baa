-- How outlines are built: no contract that a caller reads needs it
pub mod Built
pub mod Counts
