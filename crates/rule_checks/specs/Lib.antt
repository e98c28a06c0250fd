pub mod Alive
pub mod Answers
pub mod Laws
pub mod Parts
pub mod Refusals
pub mod Texts
