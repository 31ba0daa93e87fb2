pub mod Replay
pub mod Lent
pub mod Steps
