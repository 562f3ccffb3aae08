pub mod BoardLaws
pub mod ReadLaws
pub mod Reading
pub mod Parts
