pub mod Search
pub mod Pastes
pub mod Surveyed
pub mod Reaching
pub mod Cascading
pub mod Holding
pub mod Entries
pub mod Stretches
