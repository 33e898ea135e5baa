pub mod Causes
pub mod Events
pub mod Links
pub mod Pieces
pub mod Spawners
pub mod Told
pub mod Hearing
