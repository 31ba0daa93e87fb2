pub mod Stretches
pub mod Local
pub mod Marks
