pub mod Accepted
pub mod Moving
pub mod Meters
pub mod Staying
