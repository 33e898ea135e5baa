mod AskedMessages
mod Messages
mod CoordsKept
pub mod Complete
pub mod Exits
pub mod Growing
pub mod IgnoredLines
pub mod NothingPlayed
pub mod OneReport
pub mod PiecesSoFar
pub mod Playing
pub mod QuietLines
mod Deliveries
mod ShownHistory
mod ToldDrained
mod SecondFile
pub mod Schedules
mod ByLast
pub mod ShownCells
pub mod Shows
pub mod SoFar
pub mod Sorted
pub mod LinesLeft
pub mod Sendable
pub mod OwnCells
mod OwnServers
pub mod NamedParts
pub mod SmallLines
