pub mod Judging
pub mod Laws
pub mod Monitoring
pub mod Monitors
