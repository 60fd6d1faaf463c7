-- What the contracts of `color_table` cite beside the definitions of `format`.
pub mod Places
pub mod Table
pub mod Unpack
pub mod Hints
pub mod Found
pub mod OneOf
pub mod Four
pub mod Row
pub mod Packed
pub mod Pack
