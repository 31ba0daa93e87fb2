pub mod Page
pub mod Position
pub mod Shape
