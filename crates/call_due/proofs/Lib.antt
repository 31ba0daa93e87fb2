pub mod Reached
pub mod Tallies
