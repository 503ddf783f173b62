pub mod Boards
pub mod Makings
pub mod Lawfulness
