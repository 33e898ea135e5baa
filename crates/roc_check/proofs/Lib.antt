pub mod Added
pub mod Judging
pub mod Unique
pub mod Witnessed
pub mod Formed
mod Searches
mod Trees
mod Vertices
mod Promoted
mod Refused
mod Shortest
mod Chosen
mod PieceSets
mod Gathered
