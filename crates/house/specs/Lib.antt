pub mod Refusals
pub mod Lines
pub mod Fields
pub mod Writing
pub mod Reading
pub mod Tariffs
pub mod Houses
pub mod Pricing
