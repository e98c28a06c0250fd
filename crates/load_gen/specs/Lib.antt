pub mod Blocks
pub mod Draws
pub mod Laws
pub mod Made
pub mod Pieces
