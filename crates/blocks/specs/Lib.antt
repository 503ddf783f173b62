pub mod Blocks
pub mod Marks
