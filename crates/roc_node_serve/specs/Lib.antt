pub mod ServerRun
pub mod ServeEnd
pub mod Logging
pub mod Keeping
pub mod Pieces
pub mod Inner
