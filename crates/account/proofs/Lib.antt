pub mod Kwh
pub mod Following
pub mod Remaking
pub mod Keeping
