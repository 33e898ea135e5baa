pub mod Sends
pub mod StartRound
pub mod Asked
pub mod Among
pub mod Outcomes
pub mod Given
pub mod Keeping
pub mod Gathering
pub mod Fitting
mod Least
