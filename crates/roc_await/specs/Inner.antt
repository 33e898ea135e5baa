-- What stands here is of private functions alone
pub mod Groups
pub mod Grown
pub mod Taken
pub mod Shortened
pub mod Apart
