pub mod Anew
pub mod Hashing
pub mod Ones
