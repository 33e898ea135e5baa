-- What stands here is of private functions alone
pub mod Given
pub mod Kept
pub mod CommitWith
pub mod FactPlace
pub mod MoreStarts
pub mod Reads
pub mod Again
pub mod Rises
