pub mod Recall
