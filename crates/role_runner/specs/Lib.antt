pub mod Acts
pub mod Ties
pub mod Endings
pub mod Jobs
pub mod Plays
pub mod Starts
pub mod Runs
