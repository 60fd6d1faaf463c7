pub mod Own
pub mod Counts
pub mod Chunks
pub mod Sums
pub mod Answers
