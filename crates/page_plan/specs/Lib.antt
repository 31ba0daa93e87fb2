pub mod Gather
pub mod Settle
pub mod Keys
pub mod Sources
pub mod Plans
