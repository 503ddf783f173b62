pub mod Standing
pub mod Rooms
