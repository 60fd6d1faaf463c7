-- What the contracts of `chain` cite beside the definitions of `format`.
pub mod Valid
pub mod Reading
