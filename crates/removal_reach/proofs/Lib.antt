pub mod Ruled
pub mod Items
pub mod Front
pub mod Counted
pub mod Shortened
pub mod Removing
pub mod OnePage
