pub mod Tests
pub mod BoolLaws
pub mod ListLaws
pub mod WordLaws
pub mod LoopLaws
pub mod Outcomes
pub mod StateLaws
