-- What the contracts of `predictor` cite beside the definitions of `format`.
pub mod Row
pub mod Segments
pub mod Bytewise
pub mod Picture
