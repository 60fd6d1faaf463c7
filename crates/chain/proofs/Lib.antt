pub mod Tabled
pub mod Valid
pub mod Records
pub mod Sizes
