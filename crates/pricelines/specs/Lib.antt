pub mod Lines
pub mod Pricing
