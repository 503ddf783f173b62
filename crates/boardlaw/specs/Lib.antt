pub mod Changes
pub mod History
