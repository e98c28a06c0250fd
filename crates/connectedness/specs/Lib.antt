pub mod ByCases
pub mod Checks
pub mod Connected
pub mod Laws
pub mod Summaries
