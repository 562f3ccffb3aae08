pub mod LineLaws
pub mod Theorems
