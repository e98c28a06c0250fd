pub mod Walking
pub mod Rules
pub mod Characters
pub mod Sights
pub mod Settling
pub mod Meaning
pub mod Parses
pub mod Built
pub mod Defaults
pub mod Splitting
pub mod Grammars
pub mod Readings
pub mod OnLiterals
mod Examples
