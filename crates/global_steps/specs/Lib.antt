pub mod Follow
pub mod Laws
pub mod Running
pub mod Settled
