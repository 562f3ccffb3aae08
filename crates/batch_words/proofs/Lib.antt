pub mod FlatLaws
pub mod Theorems
