pub mod BatchLaws
pub mod Worked
pub mod Theorems
