pub mod Bounds
pub mod Codes
pub mod Homes
pub mod Points
pub mod Shrinking
