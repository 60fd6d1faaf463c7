-- What the contracts of `report` cite beside the definitions of `format`.
pub mod Counting
pub mod Counts
pub mod Listed
