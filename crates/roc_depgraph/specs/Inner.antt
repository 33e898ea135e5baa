-- What stands here is of private parts alone
pub mod Entries
