pub mod Rounding
pub mod Months
pub mod Figures
pub mod Sums
