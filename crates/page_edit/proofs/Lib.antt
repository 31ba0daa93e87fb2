pub mod Moving
pub mod Splits
pub mod Columns
pub mod Shifted
pub mod OnePage
