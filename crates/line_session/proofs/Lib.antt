pub mod SessionLaws
pub mod Theorems
