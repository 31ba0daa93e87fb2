pub mod Outcomes
pub mod Pools
