pub mod Laws
pub mod Leaders
pub mod Named
pub mod Projection
