pub mod Years
pub mod Answering
pub mod Known
