pub mod Generator
pub mod Shape
