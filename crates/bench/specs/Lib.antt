pub mod Stands
pub mod Makings
pub mod Deeds
