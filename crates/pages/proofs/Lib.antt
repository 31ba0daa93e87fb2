pub mod Parts
pub mod Places
pub mod Points
pub mod Words
pub mod Numbers
