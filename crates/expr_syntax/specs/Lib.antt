pub mod Constants
pub mod Levels
pub mod Grammar
pub mod Places
pub mod Readers
pub mod Writing
pub mod Pieces
pub mod Laws
