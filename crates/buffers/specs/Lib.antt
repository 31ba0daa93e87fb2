pub mod Counts
pub mod Lists
