pub mod Reach
pub mod Known
pub mod Cascade
pub mod Shape
