pub mod Items
pub mod Named
pub mod Inside
pub mod Columns
pub mod Stage
pub mod Before
pub mod Fold
