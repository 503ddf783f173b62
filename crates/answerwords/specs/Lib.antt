pub mod Front
pub mod Words
