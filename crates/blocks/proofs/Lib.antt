pub mod Writes
pub mod ByteLists
pub mod Marking
