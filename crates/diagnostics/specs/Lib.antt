pub mod Wording
pub mod Places
pub mod Verdicts
pub mod Rendering
pub mod Calls
pub mod Traces
pub mod Marked
