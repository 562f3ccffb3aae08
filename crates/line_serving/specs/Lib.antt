pub mod Input
pub mod Serving
