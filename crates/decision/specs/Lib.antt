pub mod Edits
pub mod Carried
