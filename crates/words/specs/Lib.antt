pub mod Words
pub mod Numbers
pub mod Held
pub mod Hex
