pub mod Lines
pub mod Saying
