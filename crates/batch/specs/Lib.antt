pub mod Batches
pub mod Reached
pub mod WorkedBatch
