pub mod Faults
pub mod Memory
pub mod Plan
pub mod Source
pub mod Sink
pub mod Sure
