pub mod Answers
pub mod Moving
