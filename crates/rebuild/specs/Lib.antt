-- What the contracts of `rebuild` cite beside the definitions of `format`.
pub mod Rows
pub mod Inverse
