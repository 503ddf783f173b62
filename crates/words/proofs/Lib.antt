mod Gathered
pub mod Names
mod Pairs
