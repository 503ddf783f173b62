pub mod Digits
pub mod Correspondence
