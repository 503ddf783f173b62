pub mod Numbers
pub mod Refusals
pub mod Limits
pub mod Usage
pub mod Forms
