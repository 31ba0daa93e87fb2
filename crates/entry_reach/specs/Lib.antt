pub mod Entry
pub mod Blocks
pub mod Pushing
