pub mod Desks
pub mod Lines
