pub mod Follow
pub mod Marked
pub mod Making
pub mod Writing
pub mod Deciding
pub mod Answers
pub mod Numbered
