pub mod Turns
pub mod Reaching
pub mod Mapping
