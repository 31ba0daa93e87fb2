pub mod Refused
pub mod Sought
pub mod Filed
