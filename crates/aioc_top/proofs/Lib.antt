pub mod Asked
pub mod Causes
pub mod Clauses
mod Examples
pub mod Driven
pub mod FaultLemmas
pub mod Finishing
pub mod Judged
pub mod Monitored
pub mod Printing
pub mod Resuming
pub mod Projected
pub mod Serving
pub mod Table
pub mod Texts
