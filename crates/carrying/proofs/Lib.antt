pub mod Listing
pub mod Words
pub mod Sorted
pub mod Placing
pub mod Carried
