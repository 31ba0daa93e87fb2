pub mod Among
pub mod Laying
pub mod Placing
