mod Delta
mod Pixels
pub mod Pointwise
mod Blocks
