pub mod Holding
pub mod OneBlock
pub mod Starting
pub mod Named
pub mod Planned
