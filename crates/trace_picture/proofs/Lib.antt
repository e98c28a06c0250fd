pub mod Arrived
pub mod Harmless
pub mod Repeats
pub mod Sources
