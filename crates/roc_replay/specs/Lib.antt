pub mod BoundLine
pub mod Cells
pub mod Ended
pub mod Inner
pub mod Pieces
pub mod Played
pub mod Report
pub mod Readback
