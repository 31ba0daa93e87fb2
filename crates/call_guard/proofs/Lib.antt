pub mod Admitting
pub mod Turned
pub mod Recorded
