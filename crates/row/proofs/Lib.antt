pub mod Joining
pub mod Places
pub mod Comparing
pub mod Inverse
