pub mod LogLine
pub mod Spellable
pub mod Sent
pub mod Words
pub mod Reading
pub mod Logs
pub mod FaultText
pub mod Inner
