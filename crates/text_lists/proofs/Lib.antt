pub mod ListLaws
pub mod Theorems
