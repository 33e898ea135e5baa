pub mod Standing
pub mod Line
pub mod Shown
pub mod Text
pub mod Checked
pub mod ReportLine
pub mod Names
pub mod Reading
