pub mod Modes
pub mod Bytewise
pub mod Blocks
pub mod Rows
pub mod StoredRows
pub mod Choice
