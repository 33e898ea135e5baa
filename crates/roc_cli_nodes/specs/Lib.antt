pub mod Call
pub mod Words
pub mod NodeEnds
pub mod Nodes
pub mod Ends
pub mod Inner
