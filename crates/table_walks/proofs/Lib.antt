pub mod PairLaws
pub mod CountLaws
pub mod Theorems
