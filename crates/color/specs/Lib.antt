-- What the contracts of `color` cite beside the definitions of `format`.
pub mod Factor
pub mod Factors
pub mod Row
