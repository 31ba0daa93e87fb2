pub mod Rehomed
