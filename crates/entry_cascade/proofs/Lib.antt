pub mod Appending
pub mod Answers
pub mod Naming
pub mod Loading
pub mod Filled
pub mod Rolling
pub mod Entered
