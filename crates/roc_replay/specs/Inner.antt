-- What stands here is of private functions alone
pub mod Closed
pub mod Ends
pub mod Reading
