pub mod Draws
pub mod WorkloadText
pub mod Drawn
pub mod ScheduleText
pub mod Load
pub mod SummaryText
