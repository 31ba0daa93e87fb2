pub mod Entries
pub mod Runs
pub mod Listing
pub mod Program
pub mod Shape
