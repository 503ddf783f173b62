pub mod Slots
pub mod Tables
pub mod Lawfulness
pub mod SlotRows
