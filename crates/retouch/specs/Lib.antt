-- What the contracts of `retouch` cite beside the definitions of `format`.
pub mod Spots
pub mod Remade
pub mod Decided
pub mod Changes
