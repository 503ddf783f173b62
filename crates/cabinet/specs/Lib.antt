pub mod Faults
pub mod Settling
pub mod Books
