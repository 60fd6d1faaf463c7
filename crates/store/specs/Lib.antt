-- What the contracts of `store` cite beside the definitions of `format`.
pub mod Stage
pub mod Turns
pub mod Made
