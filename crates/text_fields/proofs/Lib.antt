pub mod FieldLaws
pub mod Theorems
