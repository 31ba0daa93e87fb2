pub mod Outcomes
pub mod Stepping
