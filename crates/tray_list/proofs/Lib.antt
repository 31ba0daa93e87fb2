pub mod Closing
pub mod Answering
pub mod Loaded
pub mod ClosedUp
