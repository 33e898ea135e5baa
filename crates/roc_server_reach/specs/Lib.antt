pub mod Bits
pub mod Least
-- What stands here is of private functions alone
pub mod Inner
