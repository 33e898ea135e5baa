-- What stands here is of private functions alone
pub mod JournalTurn
pub mod LogTurn
pub mod ServerTurn
