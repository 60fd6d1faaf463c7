-- What the contracts of code cite beside the definitions of `format`: cells of a buffer replaced in order, blocks as a
-- row meets them, a row's buffer, words, strides, rules that loops are given.
pub mod Cells
pub mod Distance
pub mod Blocks
pub mod Held
pub mod Word
pub mod Calls
pub mod Stride
