pub mod Fronts
pub mod Ready
pub mod Lengths
pub mod Cutting
pub mod Runs
pub mod Unique
pub mod Readings
