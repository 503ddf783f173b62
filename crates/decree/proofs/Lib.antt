pub mod Permitted
pub mod Rightly
pub mod Extending
