pub mod Held
pub mod Entering
pub mod Rising
pub mod Ending
pub mod Listed
pub mod Program
