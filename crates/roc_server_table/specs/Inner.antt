-- What stands here is of private functions alone
pub mod Changes
pub mod Among
pub mod Kept
pub mod Leading
pub mod Rising
