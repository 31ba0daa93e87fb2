pub mod Keys
pub mod Carried
