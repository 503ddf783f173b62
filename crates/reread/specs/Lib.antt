pub mod Forms
pub mod Answers
