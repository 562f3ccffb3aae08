pub mod Carrying
pub mod Running
