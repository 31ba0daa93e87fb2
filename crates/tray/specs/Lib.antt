pub mod Lent
pub mod Refusals
pub mod Filing
pub mod Shape
