pub mod Taking
pub mod Counted
pub mod Ending
pub mod OneFold
pub mod ToldLines
pub mod Answering
pub mod ToldOnce
