pub mod Vertices
pub mod Crossings
pub mod Middles
pub mod Meeting
pub mod Turned
pub mod Contended
