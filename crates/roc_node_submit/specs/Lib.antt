pub mod CoordRun
pub mod EachAnswered
pub mod SubmitEnd
pub mod Pieces
pub mod Inner
