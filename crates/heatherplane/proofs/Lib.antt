pub mod Telling
pub mod Reported
