pub mod Outcomes
pub mod Pools
pub mod Resent
pub mod Stopped
