pub mod Households
pub mod Visits
pub mod Meters
pub mod Payments
pub mod Slips
pub mod Rounds
