pub mod Planned
pub mod Verdicts
pub mod Unraisable
