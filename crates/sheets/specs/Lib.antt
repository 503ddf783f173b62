pub mod Named
pub mod SheetOfAnyLemmas
