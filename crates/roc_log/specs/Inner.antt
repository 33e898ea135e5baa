-- What private functions give: what a log is stands in the other files
pub mod Given
pub mod InRange
pub mod Writing
