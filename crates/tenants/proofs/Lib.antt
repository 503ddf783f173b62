pub mod Picks
pub mod Calls
