pub mod Tables
pub mod Exchange
