pub mod GrownCoordRun
pub mod GrownEnd
pub mod GrownPieces
pub mod Inner
