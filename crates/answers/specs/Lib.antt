pub mod Bills
pub mod Texts
pub mod Answers
pub mod Tells
pub mod Prices
