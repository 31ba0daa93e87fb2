pub mod Arriving
pub mod Cascade
