-- What the contracts of `item` cite beside the definitions of `format`.
pub mod Made
pub mod Source
pub mod Neighbors
pub mod Table
