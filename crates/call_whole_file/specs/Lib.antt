pub mod Outcomes
