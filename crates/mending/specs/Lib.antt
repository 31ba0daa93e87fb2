pub mod Collect
pub mod Renew
