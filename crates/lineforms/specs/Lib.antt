pub mod Verbs
pub mod Forms
