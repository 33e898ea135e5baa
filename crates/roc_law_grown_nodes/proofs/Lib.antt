pub mod GrownSides
pub mod GrownCauses
pub mod GrownStands
pub mod GrownNodeMoves
pub mod GrownSubmitMoves
pub mod GrownWoven
