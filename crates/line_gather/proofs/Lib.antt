pub mod GatherLaws
pub mod Theorems
