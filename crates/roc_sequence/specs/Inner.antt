-- How lists are kept: no contract that a caller reads needs it
pub mod Shown
