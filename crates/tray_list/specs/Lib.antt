pub mod Latest
pub mod Closing
pub mod Loading
