-- The reading side, cited by the contracts of private functions alone: what a schedule is stands in the other files
pub mod Reading
