pub mod Transcript
pub mod History
pub mod Law
