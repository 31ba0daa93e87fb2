pub mod Growing
pub mod InPlace
pub mod PlannedGrowth
pub mod Stepped
pub mod Agreeing
pub mod GivenBack
