pub mod WriterLaws
pub mod Theorems
