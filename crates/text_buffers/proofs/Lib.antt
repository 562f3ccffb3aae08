pub mod BufferLaws
pub mod Theorems
