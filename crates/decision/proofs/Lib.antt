pub mod Edited
pub mod Stretched
pub mod Carrying
