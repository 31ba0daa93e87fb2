pub mod Raising
pub mod Counters
