pub mod Written
pub mod Shape
