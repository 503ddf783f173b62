pub mod Figures
pub mod Rows
pub mod Crossing
pub mod Sheets
pub mod Prices
pub mod Statuses
pub mod Chosen
