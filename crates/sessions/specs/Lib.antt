pub mod Commands
pub mod Shape
