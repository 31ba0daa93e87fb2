pub mod Reply
pub mod Trays
pub mod Shape
