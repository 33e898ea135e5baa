pub mod Commands
pub mod Faults
pub mod Loading
pub mod Fitting
pub mod FittingReplays
pub mod FittingNodes
pub mod Loads
pub mod Counts
pub mod Told
pub mod Finished
pub mod Fits
pub mod Unfitting
pub mod UnfittingReplays
pub mod UnfittingNodes
mod FaultyFiles
mod ToldLists
mod NothingDone
mod UnfittingLists
mod Verdicts
mod FittingLogs
mod HonestLogs
mod UnfittingLogs
