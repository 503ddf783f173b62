pub mod Counts
pub mod Numbering
pub mod Outcomes
