pub mod Indices
pub mod Pricelists
