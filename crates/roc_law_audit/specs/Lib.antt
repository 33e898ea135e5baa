pub mod InTheWorld
pub mod LogsOfRuns
