pub mod Expansion
pub mod Blocks
