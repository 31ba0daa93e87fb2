pub mod Stages
pub mod Lanes
pub mod Indexed
