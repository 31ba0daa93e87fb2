pub mod Known
pub mod Stepping
pub mod Resting
pub mod Running
pub mod Replays
