pub mod Changing
pub mod Recalling
