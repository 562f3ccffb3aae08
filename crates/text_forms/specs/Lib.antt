pub mod Forms
pub mod Judging
pub mod BadLines
