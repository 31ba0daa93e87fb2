pub mod Growth
pub mod Step
pub mod Shrinking
