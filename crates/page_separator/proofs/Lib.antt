pub mod Lists
pub mod Packing
pub mod Counting
pub mod Factors
pub mod Cutting
