pub mod Faults
pub mod Posted
