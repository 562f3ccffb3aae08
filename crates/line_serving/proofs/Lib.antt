pub mod ServingLaws
pub mod Theorems
