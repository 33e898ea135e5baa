mod Accesses
pub mod CellByCell
pub mod Covered
mod FirstGroups
mod GroupRuns
pub mod IndexSteps
mod KeyedGroups
mod LeftOut
pub mod Pairs
mod Placed
pub mod Restored
pub mod SameGroups
pub mod Stands
pub mod Tried
