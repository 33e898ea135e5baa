-- What stands here is of private functions alone
pub mod Given
