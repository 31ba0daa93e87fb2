pub mod Grammar
pub mod Replies
pub mod Programs
pub mod Turns
pub mod Shape
pub mod Streams
