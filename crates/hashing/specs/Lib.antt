pub mod Geometry
pub mod Limits
pub mod Home
pub mod Moves
