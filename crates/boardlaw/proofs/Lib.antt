pub mod Keeping
pub mod Applying
