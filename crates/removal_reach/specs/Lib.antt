pub mod Stretch
pub mod Removal
pub mod Changed
