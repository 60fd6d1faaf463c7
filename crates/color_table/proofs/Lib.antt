pub mod Entries
pub mod Rows
pub mod Index
pub mod Hints
pub mod Digits
pub mod Records
pub mod Fronts
