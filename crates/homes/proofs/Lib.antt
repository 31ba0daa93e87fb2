pub mod Numbers
pub mod Lists
pub mod Prepared
pub mod Steps
