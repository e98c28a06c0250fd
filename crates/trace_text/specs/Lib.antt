pub mod Json
pub mod JsonValues
pub mod Laws
pub mod Lines
pub mod Process
pub mod Runs
pub mod Written
