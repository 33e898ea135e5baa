-- Definitions that only the inside of this crate cites: no contract that a caller reads needs them.
pub mod Codes
