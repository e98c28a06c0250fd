pub mod Network
pub mod Schedule
