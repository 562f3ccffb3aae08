pub mod LendingLaws
pub mod NamedLaws
