pub mod Bytes
pub mod Entries
pub mod Limits
pub mod Turns
pub mod ReadBack
pub mod Accepted
