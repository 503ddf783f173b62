pub mod Tariff
pub mod Choice
