pub mod Choreographies
pub mod Places
pub mod Readers
pub mod Writing
pub mod Pieces
pub mod Laws
