pub mod Replying
pub mod Program
