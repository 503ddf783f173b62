pub mod Starting
pub mod OneCall
