pub mod KeywordLaws
pub mod LookupLaws
pub mod Theorems
