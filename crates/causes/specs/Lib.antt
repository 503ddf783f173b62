pub mod Rules
pub mod Causes
pub mod Caused
