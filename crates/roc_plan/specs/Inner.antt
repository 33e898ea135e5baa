-- How plans are kept and compared: no contract that a caller reads needs them
pub mod Agreeing
pub mod Codes
pub mod Outlines
