pub mod Leaders
pub mod Plans
