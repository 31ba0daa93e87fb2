pub mod Survey
pub mod Stars
pub mod Stretch
