pub mod Replay
pub mod Entries
pub mod Journals
pub mod Lawfulness
pub mod Replaying
pub mod Latest
pub mod Noting
