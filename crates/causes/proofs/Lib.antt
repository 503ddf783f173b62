pub mod Firsts
pub mod Deciding
pub mod Counting
pub mod Refusing
pub mod Opening
pub mod Events
pub mod Settling
pub mod Causing
