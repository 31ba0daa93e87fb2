pub mod Reporting
pub mod Searched
pub mod Ordered
