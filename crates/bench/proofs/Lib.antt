pub mod BenchLaws
pub mod Theorems
