pub mod Positions
pub mod Marks
pub mod Laws
