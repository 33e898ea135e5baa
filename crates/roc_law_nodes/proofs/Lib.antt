mod Stepping
mod Owned
mod WorldFolds
mod OneFold
mod Spelled
mod ServerFolds
mod CoordFolds
mod RecordedFolds
mod Reopened
mod NodeLogs
mod ServerNodeLogs
mod CoordNodeLogs
mod RunLogs
mod WholeLogs
mod AllLogs
pub mod SideBySide
mod WorldMoves
pub mod NodeMoves
pub mod SubmitMoves
pub mod Woven
mod Going
