pub mod AnswerLaws
pub mod ShownLaws
pub mod Fits
pub mod Theorems
