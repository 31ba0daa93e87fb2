pub mod Copies
pub mod Fills
pub mod Lists
pub mod Tests
pub mod Written
pub mod Zeros
