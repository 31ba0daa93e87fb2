pub mod Probed
pub mod Items
pub mod Pastes
pub mod Stars
pub mod Lent
pub mod AtHome
