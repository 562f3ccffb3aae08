pub mod NumberLaws
pub mod PrintLaws
pub mod Theorems
